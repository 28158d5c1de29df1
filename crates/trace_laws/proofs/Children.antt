-- Entries in an undisturbed run: where an entry starts, whether it has a child or an order, and that only children that
-- init waits for end.
use Rattle.trace_laws.proofs.Words.{◌≡◌, refl, sym, ◌∙◌, ap, subst, inl, inr, ℕ, Bool, true, false, not, ◌&&◌, ◌||◌}
use Rattle.trace_laws.proofs.Words.{◌==◌, cond, List, [], ◌∷◌, filter, Option, Some, None, is_some, arith, list_any}
use Rattle.trace_laws.proofs.Words.{list_all, option_map_or, false≢true, and_parts, and_from, and_right, or_left}
use Rattle.trace_laws.proofs.Words.{or_right, or_from, or_parts, not_from_true, eqb-true, same_Some, Entry, Stage}
use Rattle.trace_laws.proofs.Words.{OrderKind, Start, Look, Term, Kill, same_id, same_ask, wanted_by, starts_of}
use Rattle.trace_laws.proofs.Words.{waited_of, same_id-is, same_id-self, both_ways, falsely, or_either, not_from}
use Rattle.trace_laws.proofs.Words.{and_false, any_less, any_filtered, entry_of, is_distinct, NewTable, Asked, Birth}
use Rattle.trace_laws.proofs.Words.{NoBirth, Death, Reaped, Still, NoLook, Hit, Miss, Told, Goal, Event, table_of}
use Rattle.trace_laws.proofs.Words.{stage_of, Child, is_child_of, is_child, has_child, open_of, undone_of, is_untold}
use Rattle.trace_laws.proofs.Words.{is_dead}
use Rattle.trace_laws.proofs.Words.{newborn, unreaped_children, kept_children, known_children, starts_in, starts_now}
use Rattle.trace_laws.proofs.Words.{is_order, adds_or_changes, is_asked, is_called, is_wanted, has_no_running_child}
use Rattle.trace_laws.proofs.Words.{next_stage, first}
use Rattle.trace_laws.proofs.Words.{is_due, goal_of, is_awaited}
use Rattle.std.proofs.lemmas.Bool.{eq-eqb}
use Rattle.init_words.specs.declared.stages.Stage.TheVariants as stage
use Rattle.trace_events.specs.declared.happenings.Happening.TheVariants.{Enter}
use Rattle.trace_events.specs.declared.steps.Step.TheVariants as step
use Rattle.trace_laws.proofs.Tests.{is_order-is}
use Rattle.trace_laws.proofs.Orders.{kept_before_told, known_kept, reaped_other, same_has, undone_is_open}
use Rattle.trace_laws.proofs.Orders.{unreaped_kept}
use Rattle.trace_laws.proofs.Dues.{MayStart, due_facts}
use Rattle.trace_laws.proofs.Keeps.{asked_free, undone_some, start_undone, look_undone}
use Rattle.trace_laws.proofs.Told.{stop_known}
use Rattle.trace_laws.proofs.Plain.{Plain, Comes, plain_ind, plain_holds, plain_distinct}
use Rattle.trace_laws.proofs.Firsts.{Entered, entered}

-- the entry is the one that the table in force has for its id
abbrev pub IsFound : Entry → List Event → Type 0
IsFound e past = entry_of e.id (table_of past) ≡ Some e

-- the child has died although init does not wait for it
abbrev is_lost : List Event → Child → Bool
is_lost past child = not (is_awaited past child) && is_dead child.id child.number past

deaths : (n : ℕ) (awaited dead : Child → Bool) (xs : List Child) → list_all (λ (child : Child). not (n == child.number)
    || awaited child) xs ≡ true → list_any (λ (child : Child). not (awaited child) && dead child) xs ≡ false
    → list_any (λ (child : Child). not (awaited child) && (child.number == n || dead child)) xs ≡ false
deaths n awaited dead [] all none = refl
deaths n awaited dead (x ∷ xs) all none = grind (arith, deaths n awaited dead xs)

abbrev NoneLost : List Event → Type 0
NoneLost past = list_any (is_lost past) (unreaped_children past) ≡ false

none_lost : (goal : Goal) (past : List Event) → Plain goal past → NoneLost past
none_lost goal past plain = plain_ind goal NoneLost (λ table distinct. refl) goes past plain.runs plain.mild where
  goes : (happening : Event) (p : List Event) → Comes goal happening p → NoneLost p → NoneLost (happening ∷ p)
  goes (NewTable table) p comes before = absurd (false≢true comes.mild)
  goes (Birth i n) p comes before =
      let alive : is_dead i n (Birth i n ∷ p) ≡ false = rw (same_id-self i, eq-eqb n n refl) refl in
      or_from (is_lost (Birth i n ∷ p) (newborn i n p)) (list_any (is_lost (Birth i n ∷ p)) (unreaped_children p))
      (and_right (not (is_awaited (Birth i n ∷ p) (newborn i n p))) (is_dead i n (Birth i n ∷ p)) alive)
      (falsely (list_any (is_lost (Birth i n ∷ p)) (unreaped_children p)) (list_any (is_lost p) (unreaped_children p))
      (any_less (is_lost (Birth i n ∷ p)) (is_lost p) older (unreaped_children p)) before) where
        older : (child : Child) → is_lost (Birth i n ∷ p) child ≡ true → is_lost p child ≡ true
        older child h =
            let parts = and_parts (not (is_awaited p child))
            (not (same_id child.id i && child.number == n) && is_dead child.id child.number p) h in
            and_from (not (is_awaited p child)) (is_dead child.id child.number p) parts.0
            (and_parts (not (same_id child.id i && child.number == n)) (is_dead child.id child.number p) parts.1).1
  goes (Death n) p comes before =
      deaths n (is_awaited p) (λ child. is_dead child.id child.number p) (unreaped_children p) comes.mild before
  goes (Reaped i n status) p comes before = falsely (list_any (is_lost p)
      (filter (λ child. not (is_child i n child)) (unreaped_children p))) (list_any (is_lost p) (unreaped_children p))
      (any_filtered (is_lost p) (λ child. not (is_child i n child)) (unreaped_children p)) before
  goes (_) p comes before = before

-- an entry that was asked starts in the stage
wanted_starts : (e : Entry) (past : List Event) → is_wanted e past ≡ true → starts_in e (stage_of past) ≡ true
wanted_starts e past h = (and_parts (starts_now e past)
    (wanted_by e.act (has_no_running_child e.id past) (not (is_asked e.id past)) (is_called e past)) h).0

abbrev AskedStarts : List Event → Type 0
AskedStarts past = (e : Entry) → IsFound e past → is_asked e.id past ≡ true → starts_in e (stage_of past) ≡ true

asked_starts : (goal : Goal) (past : List Event) → Plain goal past → AskedStarts past
asked_starts goal past plain = plain_ind goal AskedStarts begins goes past plain.runs plain.mild where
  begins : (table : List Entry) → is_distinct table ≡ true → AskedStarts (NewTable table ∷ [])
  begins table distinct e found h = absurd (false≢true (sym (and_false (not (adds_or_changes e.id table []))) ∙ h))

  goes : (happening : Event) (p : List Event) → Comes goal happening p → AskedStarts p → AskedStarts (happening ∷ p)
  goes (NewTable table) p comes before e found h = absurd (false≢true comes.mild)
  goes (Enter now grace) p comes before e found h = absurd (false≢true h)
  goes (Asked i Start) p comes before e found h = or_either (same_id e.id i) (is_asked e.id p) h own (before e found)
    where
      may : MayStart i (table_of p) p
      may = due_facts goal p (step.Order i Start) comes.may

      own : same_id e.id i ≡ true → starts_in e (stage_of p) ≡ true
      own same =
          let is : e ≡ may.run.entry = same_Some e may.run.entry (sym found ∙ ap (λ x. entry_of x (table_of p))
          (same_id-is e.id i same) ∙ may.run.found (plain_distinct goal p comes.before)) in
          subst (λ (x : Entry). starts_in x (stage_of p) ≡ true) (sym is) (wanted_starts may.run.entry p may.run.wanted)
  goes (_) p comes before e found h = before e found h

-- the entry starts in an earlier stage than this one
abbrev starts_before : Entry → Option Stage → Bool
starts_before e None = false
starts_before e (Some stage.Sysinit) = false
starts_before e (Some stage.Boot) = starts_of e stage.Sysinit
starts_before e (Some (stage.Run level)) = starts_of e stage.Sysinit || starts_of e stage.Boot

moved : (e : Entry) (goal : Goal) (o : Option Stage) (now : Stage) (grace : ℕ) → first (next_stage goal o)
    ≡ step.Enter now grace → (starts_in e o || starts_before e o) ≡ true → starts_before e (Some now) ≡ true
moved e goal o now grace is h = grind arith

-- an order that is not a start goes to a known child
asked_known : (goal : Goal) (i : List ℕ) (ask : OrderKind) (p : List Event) → is_due goal (step.Order i ask) p ≡ true
    → same_ask Start ask ≡ false → has_child i (known_children p) ≡ true
asked_known goal i ask p may other = grind (arith, due_facts, stop_known)

-- an entry with a child or an open order was asked, in this stage or in an earlier one
abbrev KeptAsked : List Event → Type 0
KeptAsked past = (e : Entry) → IsFound e past → (has_child e.id (kept_children past) || is_some (open_of e.id past))
    ≡ true → (is_asked e.id past || starts_before e (stage_of past)) ≡ true

kept_asked : (goal : Goal) (past : List Event) → Plain goal past → KeptAsked past
kept_asked goal past plain =
    plain_ind goal KeptAsked (λ table distinct e found h. absurd (false≢true h)) goes past plain.runs plain.mild where
      later : (i : List ℕ) (ask : OrderKind) (p : List Event) → is_due goal (step.Order i ask) p ≡ true
          → same_ask Start ask ≡ false → KeptAsked p → (e : Entry) → IsFound e p → (b : Bool) → same_id e.id i ≡ b
          → (has_child e.id (kept_children p) || is_some (cond b (Some ask) (open_of e.id p))) ≡ true
          → (is_asked e.id p || starts_before e (stage_of p)) ≡ true
      later i ask p may other before e found true same h = before e found
          (or_left (has_child e.id (kept_children p)) (is_some (open_of e.id p))
          (subst (λ x. has_child x (kept_children p)
          ≡ true) (sym (same_id-is e.id i same)) (known_kept (is_child_of i) p (asked_known goal i ask p may other))))
      later i ask p may other before e found false same h = before e found h

      goes : (happening : Event) (p : List Event) → Comes goal happening p → KeptAsked p → KeptAsked (happening ∷ p)
      goes (NewTable table) p comes before e found h = absurd (false≢true comes.mild)
      goes (Enter now grace) p comes before e found h = enters (entered goal now grace p comes) where
        earlier : (starts_in e (stage_of p) || starts_before e (stage_of p)) ≡ true
        earlier = or_either (is_asked e.id p) (starts_before e (stage_of p)) (before e found h) (λ asked. or_left
            (starts_in e (stage_of p)) (starts_before e (stage_of p)) (asked_starts goal p comes.before e found asked))
            (or_right (starts_in e (stage_of p)) (starts_before e (stage_of p)))

        enters : Entered goal p now grace → starts_before e (Some now) ≡ true
        enters (inl opens) =
            absurd (false≢true (subst (λ o. (starts_in e o || starts_before e o) ≡ true) opens.0 earlier))
        enters (inr over) = moved e (goal_of goal p) (stage_of p) now grace over.1 earlier
      goes (Asked i Start) p comes before e found h = split (same_id e.id i) h where
        split : (b : Bool) → (has_child e.id (kept_children p) || is_some (cond b (Some Start) (open_of e.id p))) ≡ true
            → ((b || is_asked e.id p) || starts_before e (stage_of p)) ≡ true
        split true h = refl
        split false h = before e found h
      goes (Asked i Look) p comes before e found h =
          later i Look p comes.may refl before e found (same_id e.id i) refl h
      goes (Asked i Term) p comes before e found h =
          later i Term p comes.may refl before e found (same_id e.id i) refl h
      goes (Asked i Kill) p comes before e found h =
          later i Kill p comes.may refl before e found (same_id e.id i) refl h
      goes (Birth i n) p comes before e found h = split (same_id e.id i) refl h where
        split : (b : Bool) → same_id e.id i ≡ b → ((b || has_child e.id (kept_children p)) || is_some (open_of e.id p))
            ≡ true → (is_asked e.id p || starts_before e (stage_of p)) ≡ true
        split true same h = before e found
            (or_right (has_child e.id (kept_children p)) (is_some (open_of e.id p)) (subst (λ x. is_some (open_of x p)
            ≡ true) (sym (same_id-is e.id i same)) (undone_some Start i p (start_undone goal i n p comes.may))))
        split false same h = before e found h
      goes (Told i) p comes before e found h = before e found (or_either (has_child e.id (kept_children (Told i ∷ p)))
          (is_some (cond (same_id e.id i) None (open_of e.id p))) h (λ kept. or_left (has_child e.id (kept_children p))
          (is_some (open_of e.id p)) (kept_before_told (is_child_of e.id) i p kept)) (λ asked. or_right
          (has_child e.id (kept_children p)) (is_some (open_of e.id p)) (still (same_id e.id i) asked))) where
            still : (b : Bool) → is_some (cond b None (open_of e.id p)) ≡ true → is_some (open_of e.id p) ≡ true
            still true h = absurd (false≢true h)
            still false h = h
      goes (_) p comes before e found h = before e found h

-- an entry that init does not wait for and that was asked has a child, or a start that is not carried out yet
abbrev AskedRuns : List Event → Type 0
AskedRuns past = (e : Entry) → IsFound e past → waited_of e ≡ false → is_asked e.id past ≡ true
    → (is_order Start (undone_of e.id past) || has_child e.id (unreaped_children past)) ≡ true

other_order : (ask : OrderKind) (o : Option OrderKind) → same_ask Start ask ≡ false → is_order ask o ≡ true
    → is_order Start o ≡ false
other_order ask o other h = ap (is_order Start) (is_order-is ask o h) ∙ other

asked_runs : (goal : Goal) (past : List Event) → Plain goal past → AskedRuns past
asked_runs goal past plain = plain_ind goal AskedRuns begins goes past plain.runs plain.mild where
  begins : (table : List Entry) → is_distinct table ≡ true → AskedRuns (NewTable table ∷ [])
  begins table distinct e found free h = absurd (false≢true (sym (and_false (not (adds_or_changes e.id table []))) ∙ h))

  -- an id without a start to be carried out has a child
  child : (e : Entry) (p : List Event) → (is_order Start (undone_of e.id p) || has_child e.id (unreaped_children p))
      ≡ true → is_order Start (undone_of e.id p) ≡ false → has_child e.id (unreaped_children p) ≡ true
  child e p h none = grind arith

  -- an order or an act of another kind leaves this unchanged
  other : (e : Entry) (i : List ℕ) (o : Option OrderKind) (p : List Event)
      → (same_id e.id i ≡ true → is_order Start (undone_of e.id p) ≡ false) → (b : Bool) → same_id e.id i ≡ b
      → (is_order Start (undone_of e.id p) || has_child e.id (unreaped_children p)) ≡ true
      → (is_order Start (cond b o (undone_of e.id p)) || has_child e.id (unreaped_children p)) ≡ true
  other e i o p none b same h = grind arith

  -- an order is given only to an id without an open order
  unasked : (e : Entry) (i : List ℕ) (ask : OrderKind) (p : List Event) → is_due goal (step.Order i ask) p ≡ true
      → same_id e.id i ≡ true → is_order Start (undone_of e.id p) ≡ false
  unasked e i ask p may same = falsely (is_order Start (undone_of e.id p)) (is_some (open_of e.id p)) (undone_some Start
      e.id p) (ap is_some (ap (λ x. open_of x p) (same_id-is e.id i same) ∙ asked_free goal i ask p may))

  acted : (e : Entry) (i : List ℕ) (ask : OrderKind) (p : List Event) → same_ask Start ask ≡ false
      → is_order ask (undone_of i p) ≡ true → same_id e.id i ≡ true → is_order Start (undone_of e.id p) ≡ false
  acted e i ask p differ h same =
      ap (λ x. is_order Start (undone_of x p)) (same_id-is e.id i same) ∙ other_order ask (undone_of i p) differ h

  signalled : (e : Entry) (i : List ℕ) (p : List Event) → (is_order Term (undone_of i p)
      || is_order Kill (undone_of i p)) ≡ true → same_id e.id i ≡ true → is_order Start (undone_of e.id p) ≡ false
  signalled e i p h same = or_either (is_order Term (undone_of i p)) (is_order Kill (undone_of i p)) h
      (λ term. acted e i Term p refl term same) (λ kill. acted e i Kill p refl kill same)

  goes : (happening : Event) (p : List Event) → Comes goal happening p → AskedRuns p → AskedRuns (happening ∷ p)
  goes (NewTable table) p comes before e found free h = absurd (false≢true comes.mild)
  goes (NoBirth i) p comes before e found free h = absurd (false≢true comes.mild)
  goes (Enter now grace) p comes before e found free h = absurd (false≢true h)
  goes (Asked i Start) p comes before e found free h = split (same_id e.id i) h where
    split : (b : Bool) → (b || is_asked e.id p) ≡ true
        → (is_order Start (cond b (Some Start) (undone_of e.id p)) || has_child e.id (unreaped_children p)) ≡ true
    split true h = refl
    split false h = before e found free h
  goes (Asked i Look) p comes before e found free h =
      other e i (Some Look) p (unasked e i Look p comes.may) (same_id e.id i) refl (before e found free h)
  goes (Asked i Term) p comes before e found free h =
      other e i (Some Term) p (unasked e i Term p comes.may) (same_id e.id i) refl (before e found free h)
  goes (Asked i Kill) p comes before e found free h =
      other e i (Some Kill) p (unasked e i Kill p comes.may) (same_id e.id i) refl (before e found free h)
  goes (Told i) p comes before e found free h = other e i None p told (same_id e.id i) refl (before e found free h)
    where
      told : same_id e.id i ≡ true → is_order Start (undone_of e.id p) ≡ false
      told same =
          falsely (is_order Start (undone_of e.id p)) (not (is_untold e.id p)) (λ undone. not_from (is_untold e.id
          p) ((plain_holds goal p comes.before).done e.id Start (is_order-is Start (undone_of e.id p) undone)))
          (not_from_true (is_untold e.id p) (ap (λ x. is_untold x p) (same_id-is e.id i same) ∙ comes.may))
  goes (Birth i n) p comes before e found free h = split (same_id e.id i) (before e found free h) where
    split : (b : Bool) → (is_order Start (undone_of e.id p) || has_child e.id (unreaped_children p)) ≡ true
        → (is_order Start (cond b None (undone_of e.id p)) || (b || has_child e.id (unreaped_children p))) ≡ true
    split true h = refl
    split false h = h
  goes (Reaped i n status) p comes before e found free h = split (same_id e.id i) refl (before e found free h) where
    reaping : (is_order Look (undone_of i p) ≡ true) × (list_any (is_child i n) (unreaped_children p) ≡ true)
    reaping = look_undone goal i n status p comes.may

    dead : is_dead i n p ≡ true
    dead = (and_parts (is_order Look (undone_of i p) && list_any (is_child i n) (unreaped_children p))
        (is_dead i n p) comes.may).1

    lost : same_id e.id i ≡ true → (child : Child) → is_child i n child ≡ true → is_lost p child ≡ true
    lost same child own =
        let parts = and_parts (same_id i child.id) (n == child.number) own in
        let id : i ≡ child.id = same_id-is i child.id parts.0 in
        let number : n ≡ child.number = eqb-true n child.number parts.1 in
        let unwaited : is_awaited p child ≡ false = ap (λ x. option_map_or waited_of (entry_of x (table_of p)) false)
        (sym (same_id-is e.id i same ∙ id)) ∙ ap (λ o. option_map_or waited_of o false) found ∙ free in
        and_from (not (is_awaited p child)) (is_dead child.id child.number p) (not_from (is_awaited p child) unwaited)
        (ap (λ x. is_dead x child.number p) (sym id) ∙ ap (λ m. is_dead i m p) (sym number) ∙ dead)

    split : (b : Bool) → same_id e.id i ≡ b → (is_order Start (undone_of e.id p)
        || has_child e.id (unreaped_children p)) ≡ true → (is_order Start (cond b None (undone_of e.id p))
        || has_child e.id (filter (λ child. not (is_child i n child)) (unreaped_children p))) ≡ true
    split true same h = both_ways (list_any (is_lost p) (unreaped_children p)) (any_less (is_child i n) (is_lost p)
        (lost same) (unreaped_children p) reaping.1) (none_lost goal p comes.before)
    split false same h = ap (λ b. is_order Start (undone_of e.id p) || b) (same_has e.id (filter (λ child. not (is_child
        i n child)) (unreaped_children p)) (unreaped_children p) (reaped_other e.id i n (unreaped_children p) same)) ∙ h
  goes (Still i) p comes before e found free h =
      other e i None p (acted e i Look p refl comes.may) (same_id e.id i) refl (before e found free h)
  goes (NoLook i) p comes before e found free h =
      other e i None p (acted e i Look p refl comes.may) (same_id e.id i) refl (before e found free h)
  goes (Hit i) p comes before e found free h =
      other e i None p (signalled e i p comes.may) (same_id e.id i) refl (before e found free h)
  goes (Miss i) p comes before e found free h =
      other e i None p (signalled e i p comes.may) (same_id e.id i) refl (before e found free h)
  goes (_) p comes before e found free h = before e found free h

apart : (e : Entry) (o : Option Stage) → starts_in e o ≡ true → starts_before e o ≡ false
apart e o h = grind arith

not_some : {A : Type 0} (o : Option A) → is_some o ≡ false → o ≡ None
not_some o h = grind arith

-- an entry of the stage that was not asked has no child and no open order
pub unasked_free : (goal : Goal) (past : List Event) → Plain goal past → (e : Entry) → IsFound e past
    → starts_in e (stage_of past) ≡ true → is_asked e.id past ≡ false
    → (has_child e.id (kept_children past) ≡ false) × (open_of e.id past ≡ None)
unasked_free goal past plain e found here unasked =
    let none = or_parts (has_child e.id (kept_children past)) (is_some (open_of e.id past))
    (falsely (has_child e.id (kept_children past) || is_some (open_of e.id past))
    (is_asked e.id past || starts_before e (stage_of past)) (kept_asked goal past plain e found)
    (or_from (is_asked e.id past) (starts_before e (stage_of past)) unasked (apart e (stage_of past) here))) in
    (none.0, not_some (open_of e.id past) none.1)

-- an entry of the stage that init does not wait for is idle exactly if it was not asked
pub idle_unasked : (goal : Goal) (past : List Event) → Plain goal past → (e : Entry) → IsFound e past
    → waited_of e ≡ false → starts_in e (stage_of past) ≡ true
    → has_no_running_child e.id past ≡ not (is_asked e.id past)
idle_unasked goal past plain e found free here = split (is_asked e.id past) refl where
  running : (is_order Start (undone_of e.id past) || has_child e.id (unreaped_children past)) ≡ true
      → has_no_running_child e.id past ≡ false
  running h = grind (arith, undone_is_open, is_order-is, unreaped_kept)

  split : (b : Bool) → is_asked e.id past ≡ b → has_no_running_child e.id past ≡ not b
  split true asked = running (asked_runs goal past plain e found free asked)
  split false unasked = grind (arith, unasked_free)
