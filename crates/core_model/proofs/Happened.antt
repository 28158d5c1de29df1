-- What is read off a trace, in terms of its happenings: which children were born and not reaped, started, ended, held.
use Rattle.core_model.proofs.Words.{◌≡◌, refl, sym, ◌∙◌, ap, subst, ℕ, ◌+◌, Bool, true, false, not, ◌&&◌, ◌||◌, ◌==◌}
use Rattle.core_model.proofs.Words.{cond, nat_lt, List, [], ◌∷◌, ◌++◌, arith, Option, Some, None, ◌⊎◌, inl, inr}
use Rattle.core_model.proofs.Words.{false≢true, and_parts, and_from, not-true, ltb-true, list_any, list_all, HOLD}
use Rattle.core_model.proofs.Words.{Entry, Act, Level, Mark, At, starts_by, served_by, wanted_by, names, Start, Stage}
use Rattle.core_model.proofs.Words.{same_id, starts_of, waited_of, same_id-is, same_id-self, any_filter, any_less}
use Rattle.core_model.proofs.Words.{any_within, falsely, not_from, or_either, has_id, entry_of, act_of, NewTable, Asked}
use Rattle.core_model.proofs.Words.{Birth, Reaped, Told, Goal, Event, Child, table_of, stage_of, time_of, is_child_of}
use Rattle.core_model.proofs.Words.{is_child, has_child, newborn, unreaped_children, kept_children, open_of, is_served}
use Rattle.core_model.proofs.Words.{is_settled, is_level, may_come, is_sound, hold_times, same_acts, adds_or_changes}
use Rattle.core_model.proofs.Words.{is_asked}
use Rattle.core_model.proofs.Words.{is_order, is_owed, may_live, entries_before, starts_now, starts_in, is_wanted}
use Rattle.core_model.proofs.Words.{is_called, has_no_running_child, is_owed_before, is_steady, is_reaping_of}
use Rattle.core_model.proofs.Words.{asked_free}
use Rattle.core_model.proofs.Words.{birth_in_turn, birth_spared, sound_step, step_at, due_facts, MaySettle, idle_none}
use Rattle.core_model.proofs.Words.{told_finds, settle_settled, MayLive, AllMayLive, leaves_entry_unchanged, is_told_of}
use Rattle.core_model.proofs.Words.{WasStarted, WasEnded, starts_at_entry, IsEntryDone, AllEarlierDone, HasChild}
use Rattle.core_model.proofs.Words.{WasHeld}
use Rattle.core_model.proofs.Words.{IsServed, IsReached}
use Rattle.init_words.specs.declared.actions.Act.TheVariants as act
use Rattle.init_words.specs.declared.stages.Stage.TheVariants.{Run}
use Rattle.trace_events.specs.declared.happenings.Happening.TheVariants.{Enter, Hold, Settle}
use Rattle.trace_events.specs.declared.steps.Step.TheVariants as step
use Rattle.trace_events.specs.Past.{is_idle}
use Rattle.trace_events.specs.Timing.{is_held}
use Rattle.trace_events.specs.Wanted.{is_excluded}

-- ---- children that were born and not reaped

other_child : (id i : List ℕ) (n m : ℕ) (child : Child) → (same_id id i && n == m) ≡ false
    → is_child id n child ≡ true → is_child i m child ≡ false
other_child id i n m child other is = falsely (is_child i m child) (same_id id i && n == m) both other
  where
    both : is_child i m child ≡ true → (same_id id i && n == m) ≡ true
    both also =
        let one = and_parts (same_id id child.id) (n == child.number) is in
        let two = and_parts (same_id i child.id) (m == child.number) also in
        let same = subst (λ x. same_id id x ≡ true) (sym (same_id-is i child.id two.0)) one.0 in
        and_from (same_id id i) (n == m) same (grind (arith, one.1, two.1))

-- a child that was born and not reaped since is among the unreaped children
pub born_there : (p : Child → Bool) (id : List ℕ) (n : ℕ) (since before : List Event)
    → ((child : Child) → p child ≡ true → is_child id n child ≡ true) → p (newborn id n before) ≡ true
    → list_any (is_reaping_of id n) since ≡ false → list_any p (unreaped_children (since ++ Birth id n ∷ before)) ≡ true
born_there p id n [] before own is none = grind arith
born_there p id n (Birth i m ∷ since) before own is none = grind (arith, born_there p id n since before)
born_there p id n (Reaped i m status ∷ since) before own is none =
    any_within p (λ child. not (is_child i m child))
    (λ child has. ap not (other_child id i n m child (grind arith) (own child has)))
    (unreaped_children (since ++ Birth id n ∷ before))
    ∙ born_there p id n since before own is (grind arith)
born_there p id n (happening ∷ since) before own is none = born_there p id n since before own is none

live_by : (id : List ℕ) (before past : List Event) (o : Option Entry) (s : Option Stage)
    → entry_of id (table_of past) ≡ o → stage_of past ≡ s → may_live o (act_of id (table_of before)) s ≡ true
    → MayLive id before past
live_by id before past (Some entry) (Some stage) listed entered may = by (act_of id (table_of before)) refl may
  where
    by : (o : Option Act) → act_of id (table_of before) ≡ o → may_live (Some entry) o (Some stage) ≡ true
        → MayLive id before past
    by (Some action) is may = record {
      entry = entry;
      stage = stage;
      listed = listed;
      same = subst (λ o. same_acts (Some entry.act) o ≡ true) (sym is) (grind arith);
      entered = entered;
      lives = grind arith;
    }
    by None is may = absurd (false≢true may)
live_by id before past None s listed entered may = absurd (false≢true may)
live_by id before past (Some entry) None listed entered may = absurd
    (false≢true (no_stage (act_of id (table_of before)) may))
  where
    no_stage : (o : Option Act) → may_live (Some entry) o None ≡ true → false ≡ true
    no_stage None h = h
    no_stage (Some action) h = h

-- if no unreaped child is excluded, each may live
pub all_live : (past : List Event) → list_any (is_excluded past) (unreaped_children past) ≡ false → AllMayLive past
all_live past none id n since before born unreaped =
    live_by id before past (entry_of id (table_of past)) (stage_of past) refl refl (grind (arith, allowed))
  where
    own : Child → Bool
    own child = is_excluded past child && is_child id n child

    there : own (newborn id n before) ≡ true → list_any own (unreaped_children past) ≡ true
    there is = subst (λ xs. list_any own (unreaped_children xs) ≡ true) (sym born)
        (born_there own id n since before (λ child has. grind arith) is unreaped)

    bad : is_excluded past (newborn id n before) ≡ true → list_any (is_excluded past) (unreaped_children past) ≡ true
    bad is = any_less own (is_excluded past)
        (λ child h. (and_parts (is_excluded past child) (is_child id n child) h).0) (unreaped_children past)
        (there (and_from (is_excluded past (newborn id n before)) (is_child id n (newborn id n before)) is
        (and_from (same_id id id) (n == n) (same_id-self id) (grind arith))))

    allowed : is_excluded past (newborn id n before) ≡ false
    allowed = falsely (is_excluded past (newborn id n before))
        (list_any (is_excluded past) (unreaped_children past)) bad none

-- an unreaped child was born, and not reaped since
pub record Born (p : Child → Bool) (past : List Event) : Type 0 where
  pub id : List ℕ
  pub number : ℕ
  pub since : List Event
  pub before : List Event
  pub born : past ≡ since ++ Birth id number ∷ before
  pub unreaped : list_any (is_reaping_of id number) since ≡ false
  pub is : p (newborn id number before) ≡ true

born_later : (p q : Child → Bool) (happening : Event) (past : List Event) → (b : Born q past)
    → (q (newborn b.id b.number b.before) ≡ true → p (newborn b.id b.number b.before) ≡ true)
    → is_reaping_of b.id b.number happening ≡ false → Born p (happening ∷ past)
born_later p q happening past b less other = record {
  id = b.id;
  number = b.number;
  since = happening ∷ b.since;
  before = b.before;
  born = ap (λ xs. happening ∷ xs) b.born;
  unreaped = grind (arith, b.unreaped);
  is = less b.is;
}

pub was_born : (p : Child → Bool) (past : List Event) → list_any p (unreaped_children past) ≡ true → Born p past
was_born p [] there = absurd (false≢true there)
was_born p (Birth i m ∷ past) there = at (was_born p past) (p (newborn i m past)) refl there
  where
    at : (list_any p (unreaped_children past) ≡ true → Born p past) → (b : Bool) → p (newborn i m past) ≡ b
        → (b || list_any p (unreaped_children past)) ≡ true → Born p (Birth i m ∷ past)
    at older true is there = record
        { id = i; number = m; since = []; before = past; born = refl; unreaped = refl; is = is }
    at older false is there = born_later p p (Birth i m) past (older there) (λ h. h) refl
was_born p (Reaped i m status ∷ past) there =
    let all : Child → Bool = λ child. not (is_child i m child) && p child in
    let b = was_born all past (sym (any_filter p (λ child. not (is_child i m child)) (unreaped_children past))
    ∙ there) in
    born_later p all (Reaped i m status) past b
    (λ h. (and_parts (not (is_child i m (newborn b.id b.number b.before)))
    (p (newborn b.id b.number b.before)) h).1) (other b)
  where
    other : (b : Born (λ child. not (is_child i m child) && p child) past)
        → is_reaping_of b.id b.number (Reaped i m status) ≡ false
    other b = falsely (same_id b.id i && b.number == m) (is_child i m (newborn b.id b.number b.before)) same
        (not-true (is_child i m (newborn b.id b.number b.before))
        (and_parts (not (is_child i m (newborn b.id b.number b.before))) (p (newborn b.id b.number b.before)) b.is).0)
      where
        same : (same_id b.id i && b.number == m) ≡ true → (same_id i b.id && m == b.number) ≡ true
        same h =
            let two = and_parts (same_id b.id i) (b.number == m) h in
            and_from (same_id i b.id) (m == b.number)
            (subst (λ x. same_id x b.id ≡ true) (same_id-is b.id i two.0) (same_id-self b.id))
            (grind (arith, two.1))
was_born p (happening ∷ past) there = born_later p p happening past (was_born p past there) (λ h. h) refl

pub has_child_of : (id : List ℕ) (past : List Event) → has_child id (unreaped_children past) ≡ true → HasChild id past
has_child_of id past there =
    let b = was_born (is_child_of id) past there in
    subst (λ i. HasChild i past) (sym (same_id-is id b.id b.is))
    (record { number = b.number; since = b.since; before = b.before; born = b.born; unreaped = b.unreaped })

-- ---- starts and ends

pub record Ordered (id : List ℕ) (past : List Event) : Type 0 where
  pub since : List Event
  pub before : List Event
  pub ordered : past ≡ since ++ Asked id Start ∷ before
  pub kept : leaves_entry_unchanged id since (Asked id Start ∷ before) ≡ true

ordered_later : (id : List ℕ) (happening : Event) (past : List Event) → (o : Ordered id past)
    → leaves_entry_unchanged id (happening ∷ o.since) (Asked id Start ∷ o.before) ≡ true → Ordered id (happening ∷ past)
ordered_later id happening past o kept =
    record {
      since = happening ∷ o.since;
      before = o.before;
      ordered = ap (λ xs. happening ∷ xs) o.ordered;
      kept =
          kept;
    }

pub was_ordered : (id : List ℕ) (past : List Event) → is_asked id past ≡ true → Ordered id past
was_ordered id [] asked = absurd (false≢true asked)
was_ordered id (Enter stage grace ∷ past) asked = absurd (false≢true asked)
was_ordered id (NewTable table ∷ past) asked =
    let two = and_parts (not (adds_or_changes id table (table_of past))) (is_asked id past) asked in
    let o = was_ordered id past two.1 in
    ordered_later id (NewTable table) past o
    (and_from (not (adds_or_changes id table (table_of (o.since ++ Asked id Start ∷ o.before))))
    (leaves_entry_unchanged id o.since (Asked id Start ∷ o.before))
    (subst (λ xs. not (adds_or_changes id table (table_of xs)) ≡ true) o.ordered two.0) o.kept)
was_ordered id (Asked i Start ∷ past) asked = at (was_ordered id past) (same_id id i) refl asked
  where
    at : (is_asked id past ≡ true → Ordered id past) → (b : Bool) → same_id id i ≡ b → (b || is_asked id past) ≡ true
        → Ordered id (Asked i Start ∷ past)
    at older true same asked = subst (λ x. Ordered id (Asked x Start ∷ past)) (same_id-is id i same)
        (record { since = []; before = past; ordered = refl; kept = refl })
    at older false other asked = let o = older asked in ordered_later id (Asked i Start) past o o.kept
was_ordered id (happening ∷ past) asked = let o = was_ordered id past asked in ordered_later id happening past o o.kept

-- in a sound trace, an order that is no longer open was answered
pub order_told : (goal : Goal) (id : List ℕ) (since before : List Event)
    → is_sound goal (since ++ Asked id Start ∷ before) ≡ true
    → is_order Start (open_of id (since ++ Asked id Start ∷ before)) ≡ false → list_any (is_told_of id) since ≡ true
order_told goal id [] before sound free = absurd
    (false≢true (sym free ∙ subst (λ b. is_order Start (cond b (Some Start) (open_of id before)) ≡ true)
    (sym (same_id-self id)) refl))
order_told goal id (NewTable table ∷ []) before sound free = absurd
    (false≢true (sym free ∙ subst (λ b. is_order Start (cond b (Some Start) (open_of id before)) ≡ true)
    (sym (same_id-self id)) refl))
order_told goal id (NewTable table ∷ x ∷ since) before sound free = order_told goal id (x ∷ since) before
    (and_parts (may_come goal (NewTable table) (x ∷ since ++ Asked id Start ∷ before))
    (is_sound goal (x ∷ since ++ Asked id Start ∷ before)) sound).1 free
order_told goal id (Told i ∷ since) before sound free = at
    (order_told goal id since before (sound_step goal (Told i) (since ++ Asked id Start ∷ before) refl sound).1)
    (same_id id i) free
  where
    at : (is_order Start (open_of id (since ++ Asked id Start ∷ before)) ≡ false
        → list_any (is_told_of id) since ≡ true) → (b : Bool)
        → is_order Start (cond b None (open_of id (since ++ Asked id Start ∷ before))) ≡ false
        → (b || list_any (is_told_of id) since) ≡ true
    at older true free = refl
    at older false free = older free
order_told goal id (Asked i ask ∷ since) before sound free =
    let step = sound_step goal (Asked i ask) (since ++ Asked id Start ∷ before) refl sound in
    at (order_told goal id since before step.1) (same_id id i) refl free
    (asked_free goal i ask (since ++ Asked id Start ∷ before) step.0)
  where
    at : (is_order Start (open_of id (since ++ Asked id Start ∷ before)) ≡ false
        → list_any (is_told_of id) since ≡ true) → (b : Bool) → same_id id i ≡ b
        → is_order Start (cond b (Some ask) (open_of id (since ++ Asked id Start ∷ before))) ≡ false
        → open_of i (since ++ Asked id Start ∷ before) ≡ None → list_any (is_told_of id) since ≡ true
    at older true same free none = older
        (ap (is_order Start) (ap (λ x. open_of x (since ++ Asked id Start ∷ before)) (same_id-is id i same) ∙ none))
    at older false other free none = older free
order_told goal id (happening ∷ since) before sound free = order_told goal id since before
    (sound_step goal happening (since ++ Asked id Start ∷ before) refl sound).1 free

pub was_started : (goal : Goal) (id : List ℕ) (past : List Event) → is_sound goal past ≡ true
    → is_asked id past ≡ true → is_order Start (open_of id past) ≡ false → WasStarted id past
was_started goal id past sound asked free =
    let o = was_ordered id past asked in
    record {
      since = o.since;
      before = o.before;
      ordered = o.ordered;
      kept = o.kept;
      told = order_told goal id o.since o.before (subst (λ xs. is_sound goal xs ≡ true) o.ordered sound)
          (subst (λ xs. is_order Start (open_of id xs) ≡ false) o.ordered free);
    }

-- a child that was born is kept or has ended
ended_later : (id : List ℕ) (n : ℕ) (happening : Event) (since : List Event) → WasEnded id n since
    → WasEnded id n (happening ∷ since)
ended_later id n happening since e =
    record {
      later = happening ∷ e.later;
      between = e.between;
      told = ap (λ xs. happening ∷ xs) e.told;
      reaped =
          e.reaped;
    }

pub kept_or_ended : (id : List ℕ) (n : ℕ) (since before : List Event)
    → (has_child id (kept_children (since ++ Birth id n ∷ before)) ≡ true) ⊎ WasEnded id n since
kept_or_ended id n [] before = inl
    (subst (λ b. (b || has_child id (kept_children before)) ≡ true) (sym (same_id-self id)) refl)
kept_or_ended id n (Birth i m ∷ since) before = elim (kept_or_ended id n since before) [
  | inl there ↦ inl (grind (arith, there))
  | inr ended ↦ inr (ended_later id n (Birth i m) since ended)
]
kept_or_ended id n (Told i ∷ since) before = at (kept_or_ended id n since before) (same_id id i) refl
    (list_any (is_reaping_of id n) since) refl
  where
    past : List Event
    past = since ++ Birth id n ∷ before

    at : (has_child id (kept_children past) ≡ true) ⊎ WasEnded id n since → (b : Bool) → same_id id i ≡ b → (r : Bool)
        → list_any (is_reaping_of id n) since ≡ r → (has_child id (kept_children (Told i ∷ past)) ≡ true)
        ⊎ WasEnded id n (Told i ∷ since)
    at (inr ended) b is r reaped = inr (ended_later id n (Told i) since ended)
    at (inl there) true same true reaped = inr
        (subst (λ x. WasEnded id n (Told x ∷ since)) (same_id-is id i same)
        (record { later = []; between = since; told = refl; reaped = reaped }))
    at (inl there) true same false unreaped = inl
        (told_finds (is_child_of id) i (unreaped_children past) (kept_children past)
        (inl
        (any_less (is_child id n) (λ child. is_child_of i child && is_child_of id child) own (unreaped_children past)
        (born_there (is_child id n) id n since before (λ child h. h)
        (and_from (same_id id id) (n == n) (same_id-self id) (grind arith)) unreaped))))
      where
        own : (child : Child) → is_child id n child ≡ true → (same_id i child.id && same_id id child.id) ≡ true
        own child is =
            let one = (and_parts (same_id id child.id) (n == child.number) is).0 in
            and_from (same_id i child.id) (same_id id child.id)
            (subst (λ x. same_id x child.id ≡ true) (same_id-is id i same) one) one
    at (inl there) false other r reaped = inl
        (told_finds (is_child_of id) i (unreaped_children past) (kept_children past)
        (inr (any_less (is_child_of id) (λ child. not (is_child_of i child) && is_child_of id child) apart
        (kept_children past) there)))
      where
        apart : (child : Child) → same_id id child.id ≡ true → (not (same_id i child.id) && same_id id child.id) ≡ true
        apart child is = and_from (not (same_id i child.id)) (same_id id child.id)
            (not_from (same_id i child.id)
            (falsely (same_id i child.id) (same_id id i)
            (λ also. subst (λ x. same_id id x ≡ true) (sym (same_id-is i child.id also)) is) other)) is
kept_or_ended id n (happening ∷ since) before = elim (kept_or_ended id n since before) [
  | inl there ↦ inl there
  | inr ended ↦ inr (ended_later id n happening since ended)
]

-- ---- what is owed, served, settled

at_entry_wanted : (a : Act) (idle fresh called : Bool) → starts_at_entry a ≡ true
    → wanted_by a idle fresh called ≡ fresh
at_entry_wanted a idle fresh called h = grind arith

through : (goal : Goal) (past : List Event) → is_sound goal past ≡ true → (e : Entry) → waited_of e ≡ true
    → is_owed e past ≡ false → IsEntryDone e past
through goal past sound e waited free = record { ended = ended; started = started }
  where
    none : (has_child e.id (kept_children past) || is_order Start (open_of e.id past) || is_wanted e past) ≡ false
    none = sym (ap (λ b. b && (has_child e.id (kept_children past) || is_order Start (open_of e.id past)
        || is_wanted e past)) waited) ∙ free

    ended : (number : ℕ) (since before : List Event) → past ≡ since ++ Birth e.id number ∷ before
        → WasEnded e.id number since
    ended number since before born = elim (kept_or_ended e.id number since before) [
      | inl there ↦ absurd (false≢true
          (sym childless ∙ subst (λ xs. has_child e.id (kept_children xs) ≡ true) (sym born) there))
      | inr over ↦ over
    ]
      where
        childless : has_child e.id (kept_children past) ≡ false
        childless = grind (arith, none)

    started : (stage : Stage) → stage_of past ≡ Some stage → starts_of e stage ≡ true → starts_at_entry e.act ≡ true
        → WasStarted e.id past
    started stage is starts entry = was_started goal e.id past sound asked (grind (arith, none))
      where
        unwanted : (starts_now e past
            && wanted_by e.act (has_no_running_child e.id past) (not (is_asked e.id past)) (is_called e past)) ≡ false
        unwanted = grind (arith, none)

        asked : is_asked e.id past ≡ true
        asked = twice (is_asked e.id past)
            (sym
            (at_entry_wanted e.act (has_no_running_child e.id past) (not (is_asked e.id past)) (is_called e past) entry)
            ∙ ap
            (λ b. b && wanted_by e.act (has_no_running_child e.id past) (not (is_asked e.id past)) (is_called e past))
            (sym (ap (starts_in e) is ∙ starts)) ∙ unwanted)
          where
            twice : (b : Bool) → not b ≡ false → b ≡ true
            twice b h = grind arith

owed_before : (p : Entry → Bool) (id : List ℕ) (front rest : List Entry) (e : Entry)
    → list_any (has_id id) front ≡ false → same_id id e.id ≡ false → p e ≡ true
    → list_any p (entries_before id (front ++ e ∷ rest)) ≡ true
owed_before p id [] rest e none other is = grind arith
owed_before p id (x ∷ front) rest e none other is = grind (arith, owed_before p id front rest e)

-- if no earlier entry is owed, each waited one is through
pub all_through : (goal : Goal) (past : List Event) (id : List ℕ) → is_sound goal past ≡ true
    → is_owed_before id past ≡ false → AllEarlierDone id past
all_through goal past id sound free front rest e table none other waited =
    through goal past sound e waited (falsely (is_owed e past) (is_owed_before id past) owed free)
  where
    owed : is_owed e past ≡ true → is_owed_before id past ≡ true
    owed is = subst (λ es. list_any (λ x. is_owed x past) (entries_before id es) ≡ true) (sym table)
        (owed_before (λ x. is_owed x past) id front rest e none other is)

all_at : (p : Entry → Bool) (front rest : List Entry) (e : Entry) → list_all p (front ++ e ∷ rest) ≡ true → p e ≡ true
all_at p [] rest e all = grind arith
all_at p (x ∷ front) rest e all = grind (arith, all_at p front rest e)

record Held (id : List ℕ) (p : ℕ → Bool) (past : List Event) : Type 0 where
  since : List Event
  before : List Event
  held : past ≡ since ++ Hold id ∷ before
  steady : is_steady since ≡ true
  is : p (time_of before) ≡ true

held_later : (id : List ℕ) (p : ℕ → Bool) (happening : Event) (past : List Event) → (h : Held id p past)
    → (is_steady h.since ≡ true → is_steady (happening ∷ h.since) ≡ true) → Held id p (happening ∷ past)
held_later id p happening past h steady =
    record {
      since = happening ∷ h.since;
      before = h.before;
      held = ap (λ xs. happening ∷ xs) h.held;
      steady =
          steady h.steady;
      is = h.is;
    }

was_held : (id : List ℕ) (p : ℕ → Bool) (past : List Event) → list_any p (hold_times id past) ≡ true → Held id p past
was_held id p [] there = absurd (false≢true there)
was_held id p (NewTable table ∷ past) there = absurd (false≢true there)
was_held id p (Enter stage grace ∷ past) there = absurd (false≢true there)
was_held id p (Hold i ∷ past) there = at (was_held id p past) (same_id id i) refl there
  where
    at : (list_any p (hold_times id past) ≡ true → Held id p past) → (b : Bool) → same_id id i ≡ b
        → list_any p (cond b (time_of past ∷ hold_times id past) (hold_times id past)) ≡ true
        → Held id p (Hold i ∷ past)
    at older true same there = now (p (time_of past)) refl there
      where
        now : (b : Bool) → p (time_of past) ≡ b → (b || list_any p (hold_times id past)) ≡ true
            → Held id p (Hold i ∷ past)
        now true is there = subst (λ x. Held id p (Hold x ∷ past)) (same_id-is id i same)
            (record { since = []; before = past; held = refl; steady = refl; is = is })
        now false is there = held_later id p (Hold i) past (older there) (λ h. h)
    at older false other there = held_later id p (Hold i) past (older there) (λ h. h)
was_held id p (happening ∷ past) there = held_later id p happening past (was_held id p past there) (λ h. h)

served : (goal : Goal) (past : List Event) → is_sound goal past ≡ true → is_idle past ≡ true
    → (level : Level) (a : Act) (levels : List Mark) (id : List ℕ) → starts_by a levels (Run level) ≡ true
    → (not (names (At level) levels)
    || served_by a (is_asked id past) (has_child id (unreaped_children past) || is_held id past)) ≡ true
    → IsServed a id past
served goal past sound idle level act.Wait levels id starts is = was_started goal id past sound (grind arith)
    (ap (is_order Start) (idle_none id past idle))
served goal past sound idle level act.Once levels id starts is = was_started goal id past sound (grind arith)
    (ap (is_order Start) (idle_none id past idle))
served goal past sound idle level act.Respawn levels id starts is =
    or_either (has_child id (unreaped_children past)) (is_held id past) (grind arith)
    (λ there. inl (has_child_of id past there))
    (λ held. inr (lately (was_held id (λ began. nat_lt (time_of past) (began + HOLD)) past held)))
  where
    lately : Held id (λ began. nat_lt (time_of past) (began + HOLD)) past → WasHeld id past
    lately h = record {
      since = h.since;
      before = h.before;
      held = h.held;
      steady = h.steady;
      lately = ltb-true
          (time_of past) (time_of h.before + HOLD) h.is;
    }
served goal past sound idle level _ levels id starts is = tt

-- a level that is settled is reached
pub reached : (goal : Goal) (past : List Event) (level : Level) → is_sound goal past ≡ true → is_idle past ≡ true
    → is_settled level (unreaped_children past) past ≡ true → IsReached level past
reached goal past level sound idle settled = record {
  entered = in_stage (stage_of past) two.0;
  living = all_live past (not-true (list_any (is_excluded past) (unreaped_children past)) two.1);
  through = λ front rest e table waited. through goal past sound e waited
      (not-true (is_owed e past) (each front rest e table).0);
  served = λ front rest e table starts. served goal past sound idle level e.act e.levels.items e.id starts
      (each front rest e table).1;
}
  where
    all : ((is_level level (stage_of past) && not (list_any (is_excluded past) (unreaped_children past))) ≡ true) ×
        (list_all (is_served level (unreaped_children past) past) (table_of past) ≡ true)
    all = and_parts (is_level level (stage_of past) && not (list_any (is_excluded past) (unreaped_children past)))
        (list_all (is_served level (unreaped_children past) past) (table_of past)) settled

    two : (is_level level (stage_of past) ≡ true) × (not (list_any (is_excluded past) (unreaped_children past)) ≡ true)
    two = and_parts (is_level level (stage_of past)) (not (list_any (is_excluded past) (unreaped_children past))) all.0

    each : (front rest : List Entry) (e : Entry) → table_of past ≡ front ++ e ∷ rest
        → (not (is_owed e past) ≡ true) ×
        ((not (names (At level) e.levels.items)
        || served_by e.act (is_asked e.id past) (has_child e.id (unreaped_children past) || is_held e.id past)) ≡ true)
    each front rest e table = and_parts (not (is_owed e past))
        (not (names (At level) e.levels.items)
        || served_by e.act (is_asked e.id past) (has_child e.id (unreaped_children past) || is_held e.id past))
        (all_at (is_served level (unreaped_children past) past) front rest e
        (subst (λ es. list_all (is_served level (unreaped_children past) past) es ≡ true) table all.1))

    in_stage : (now : Option Stage) → is_level level now ≡ true → now ≡ Some (Run level)
    in_stage now is = grind arith

-- ---- at a birth and at an announcement

pub birth_through : (goal : Goal) (later : List Event) (id : List ℕ) (n : ℕ) (past : List Event)
    → is_sound goal (later ++ Birth id n ∷ past) ≡ true → AllEarlierDone id past
birth_through goal later id n past h = all_through goal past id (step_at goal later (Birth id n) past refl h).1
    (not-true (is_owed_before id past) (birth_in_turn goal later id n past h))

pub birth_lives : (goal : Goal) (later : List Event) (id : List ℕ) (n : ℕ) (past : List Event)
    → is_sound goal (later ++ Birth id n ∷ past) ≡ true → AllMayLive past
birth_lives goal later id n past h = all_live past
    (not-true (list_any (is_excluded past) (unreaped_children past)) (birth_spared goal later id n past h))

pub settle_reached : (goal : Goal) (later : List Event) (level : Level) (past : List Event)
    → is_sound goal (later ++ Settle level ∷ past) ≡ true → IsReached level past
settle_reached goal later level past h = reached goal past level parts.1 may.idle
    (settle_settled goal later level past h)
  where
    parts : (may_come goal (Settle level) past ≡ true) × (is_sound goal past ≡ true)
    parts = step_at goal later (Settle level) past refl h

    may : MaySettle level past
    may = due_facts goal past (step.Settle level) parts.0
