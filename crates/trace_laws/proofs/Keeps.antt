-- What holds at each moment of every sound trace.
use Rattle.trace_laws.proofs.Words.{◌≡◌, refl, sym, ◌∙◌, ap, subst, inl, inr, ℕ, ◌==◌, Bool, true, false, not, ◌&&◌}
use Rattle.trace_laws.proofs.Words.{◌||◌, cond, List, [], ◌∷◌, Option, Some, None, is_some, arith, list_any, false≢true}
use Rattle.trace_laws.proofs.Words.{and_parts, and_from, and_left, and_right, or_left, or_right, or_from, not-true}
use Rattle.trace_laws.proofs.Words.{none-some, same_Some, Entry, Act, OrderKind, Start, Look, Term, Kill, same_id}
use Rattle.trace_laws.proofs.Words.{same_ask, waited_by, wanted_by, has_id, entry_of, is_distinct, NewTable, Asked}
use Rattle.trace_laws.proofs.Words.{Birth, NoBirth, Reaped, Still, NoLook, Hit, Miss, Told, Goal, Event, table_of}
use Rattle.trace_laws.proofs.Words.{stage_of, Child, is_child_of, is_child, has_number, has_child, open_of, undone_of}
use Rattle.trace_laws.proofs.Words.{is_untold, is_quiet, newborn, unreaped_children, kept_children, known_children}
use Rattle.trace_laws.proofs.Words.{starts_in, is_order, is_asked, is_called, is_wanted, is_owed, entries_before}
use Rattle.trace_laws.proofs.Words.{is_owed_before, is_excluded, stop_due, has_startable_entry, may_term, is_due}
use Rattle.trace_laws.proofs.Words.{same_id-is}
use Rattle.trace_laws.proofs.Words.{same_id-self, same_id-apart, both_ways, falsely, or_either, not_from, any_less}
use Rattle.trace_laws.proofs.Words.{any_within, may_come, is_sound}
use Rattle.init_words.specs.declared.children.Status.{Status}
use Rattle.trace_events.specs.declared.happenings.Happening.TheVariants.{Enter, Call, Power}
use Rattle.trace_events.specs.declared.steps.Step.TheVariants as step
use Rattle.trace_laws.proofs.Tests.{is_order-is}
use Rattle.trace_laws.proofs.Orders.{cleared, undone_is_open, quiet_looks, told_known, unreaped_kept, kept_before_told}
use Rattle.trace_laws.proofs.Orders.{same_of}
use Rattle.trace_laws.proofs.Dues.{is_signal, MayRun, MayStart, MayStop, due_facts}

-- while a Start of the id is not carried out, the id has no kept child, its entry starts in the stage, no earlier entry
-- is owed, and no kept child is excluded
pub record Ready (id : List ℕ) (past : List Event) : Type 0 where
  pub childless : has_child id (kept_children past) ≡ false
  pub placed : has_startable_entry id past ≡ true
  pub ahead : is_owed_before id past ≡ false
  pub spared : list_any (is_excluded past) (kept_children past) ≡ false

pub record Holds (past : List Event) : Type 0 where
  pub distinct : is_distinct (table_of past) ≡ true
  pub dawn : stage_of past ≡ None → list_any (λ (child : Child). true) (kept_children past) ≡ false
  pub told : (id : List ℕ) → is_untold id past ≡ true → is_some (open_of id past) ≡ true
  pub done : (id : List ℕ) (ask : OrderKind) → undone_of id past ≡ Some ask → is_untold id past ≡ false
  pub ready : (id : List ℕ) → undone_of id past ≡ Some Start → Ready id past
  pub stopping : (id : List ℕ) (ask : OrderKind) → undone_of id past ≡ Some ask → is_signal ask ≡ true
      → may_term id past ≡ true

-- an order is due only if its id has no open order
pub asked_free : (goal : Goal) (i : List ℕ) (ask : OrderKind) (past : List Event)
    → is_due goal (step.Order i ask) past ≡ true → open_of i past ≡ None
asked_free goal i ask past h = grind (arith, due_facts)

-- an id without an open order has no untold act
pub free_told : (id : List ℕ) (past : List Event) → ((x : List ℕ) → is_untold x past ≡ true
    → is_some (open_of x past) ≡ true) → open_of id past ≡ None → is_untold id past ≡ false
free_told id past told free = falsely (is_untold id past) (is_some (open_of id past)) (told id) (ap is_some free)

signal_busy : (ask : OrderKind) → is_signal ask ≡ true → same_ask Look ask ≡ false
signal_busy ask h = grind arith

-- at a quiet point no Start and no signal is waiting to be carried out
no_start : {P : Type 0} (id : List ℕ) (past : List Event) → is_quiet past ≡ true → undone_of id past ≡ Some Start → P
no_start id past quiet is = absurd (false≢true (quiet_looks id Start past quiet (undone_is_open id Start past is)))

no_signal : {P : Type 0} (id : List ℕ) (ask : OrderKind) (past : List Event) → is_quiet past ≡ true
    → undone_of id past ≡ Some ask → is_signal ask ≡ true → P
no_signal id ask past quiet is signal = both_ways (same_ask Look ask)
    (quiet_looks id ask past quiet (undone_is_open id ask past is)) (signal_busy ask signal)

-- an act comes only on an open order
pub undone_some : (ask : OrderKind) (id : List ℕ) (past : List Event) → is_order ask (undone_of id past) ≡ true
    → is_some (open_of id past) ≡ true
undone_some ask id past h = ap is_some (undone_is_open id ask past (is_order-is ask (undone_of id past) h))

-- a birth comes on a Start that is not carried out yet, a reaping on such a Look
pub start_undone : (goal : Goal) (id : List ℕ) (n : ℕ) (past : List Event) → may_come goal (Birth id n) past ≡ true
    → is_order Start (undone_of id past) ≡ true
start_undone goal id n past may =
    (and_parts (is_order Start (undone_of id past)) (not (list_any (has_number n) (unreaped_children past))) may).0

pub look_undone : (goal : Goal) (id : List ℕ) (n : ℕ) (status : Status) (past : List Event)
    → may_come goal (Reaped id n status) past ≡ true
    → (is_order Look (undone_of id past) ≡ true) × (list_any (is_child id n) (unreaped_children past) ≡ true)
look_undone goal id n status past may = grind arith

-- so the id of a birth was ready for it
pub born_ready : (goal : Goal) (id : List ℕ) (n : ℕ) (past : List Event) → may_come goal (Birth id n) past ≡ true
    → Holds past → Ready id past
born_ready goal id n past may holds =
    holds.ready id (is_order-is Start (undone_of id past) (start_undone goal id n past may))

signal_some : (id : List ℕ) (past : List Event)
    → (is_order Term (undone_of id past) || is_order Kill (undone_of id past)) ≡ true → is_some (open_of id past) ≡ true
signal_some id past h = or_either (is_order Term (undone_of id past)) (is_order Kill (undone_of id past)) h
    (undone_some Term id past) (undone_some Kill id past)

-- the field `told` is preserved
act_told : (id i : List ℕ) (past : List Event) → (is_untold id past ≡ true → is_some (open_of id past) ≡ true)
    → is_some (open_of i past) ≡ true → (same_id id i || is_untold id past) ≡ true → is_some (open_of id past) ≡ true
act_told id i past before here h = or_either (same_id id i) (is_untold id past) h (λ same. let P : List ℕ
    → Type 0 = λ x. is_some (open_of x past) ≡ true in subst P (sym (same_id-is id i same)) here) before

told_keeps : (goal : Goal) (happening : Event) (past : List Event) → may_come goal happening past ≡ true → (id : List ℕ)
    → (is_untold id past ≡ true → is_some (open_of id past) ≡ true) → is_untold id (happening ∷ past) ≡ true
    → is_some (open_of id (happening ∷ past)) ≡ true
told_keeps goal happening past may id before h =
    grind (arith, act_told, undone_some, start_undone, look_undone, signal_some)

-- the field `done` is preserved
act_done : (id i : List ℕ) (ask : OrderKind) (past : List Event) → (undone_of id past ≡ Some ask → is_untold id past
    ≡ false) → cond (same_id id i) None (undone_of id past) ≡ Some ask → (same_id id i || is_untold id past) ≡ false
act_done id i ask past before h = cleared (same_id id i) (undone_of id past) ask
    (λ differ is. or_from (same_id id i) (is_untold id past) differ (before is)) h

done_keeps : (goal : Goal) (happening : Event) (past : List Event) → may_come goal happening past ≡ true
    → ((x : List ℕ) → is_untold x past ≡ true → is_some (open_of x past) ≡ true) → (id : List ℕ) (ask : OrderKind)
    → (undone_of id past ≡ Some ask → is_untold id past ≡ false) → undone_of id (happening ∷ past) ≡ Some ask
    → is_untold id (happening ∷ past) ≡ false
done_keeps goal (Asked i given) past may told id ask before h = at_id (same_id id i) refl h where
  at_id : (b : Bool) → same_id id i ≡ b → cond b (Some given) (undone_of id past) ≡ Some ask → is_untold id past ≡ false
  at_id true same h =
      free_told id past told (ap (λ x. open_of x past) (same_id-is id i same) ∙ asked_free goal i given past may)
  at_id false differ h = before h
done_keeps goal (Told i) past may told id ask before h = cleared (same_id id i) (undone_of id past) ask
    (λ differ is. and_right (not (same_id id i)) (is_untold id past) (before is)) h
done_keeps goal (Birth i n) past may told id ask before h = act_done id i ask past before h
done_keeps goal (NoBirth i) past may told id ask before h = act_done id i ask past before h
done_keeps goal (Reaped i n status) past may told id ask before h = act_done id i ask past before h
done_keeps goal (Still i) past may told id ask before h = act_done id i ask past before h
done_keeps goal (NoLook i) past may told id ask before h = act_done id i ask past before h
done_keeps goal (Hit i) past may told id ask before h = act_done id i ask past before h
done_keeps goal (Miss i) past may told id ask before h = act_done id i ask past before h
done_keeps goal (_) past may told id ask before h = before h

-- a child that is born of an entry that starts in the stage is not excluded
pub placed_spared : (id : List ℕ) (n : ℕ) (past : List Event) → has_startable_entry id past ≡ true
    → is_excluded past (newborn id n past) ≡ false
placed_spared id n past h = grind arith

-- no entry starts before the first stage
pub not_placed : {P : Type 0} (id : List ℕ) (past : List Event) → stage_of past ≡ None
    → has_startable_entry id past ≡ true → P
not_placed id past dawn h = grind arith

-- whether an entry is owed, from what init reads off the past: has it a child or an open Start, does it start here, is
-- it fresh, was it called
abbrev owed_by : Act → Bool → Bool → Bool → Bool → Bool → Bool
owed_by action child start starts fresh called =
    waited_by action && (child || start || starts && wanted_by action (not child && not start) fresh called)

-- an entry that is owed stays owed if it gains a child or a Start
owed_less : (action : Act) (child start more starting starts fresh called : Bool) → (child ≡ true → more ≡ true)
    → (start ≡ true → starting ≡ true) → owed_by action child start starts fresh called ≡ true
    → owed_by action more starting starts fresh called ≡ true
owed_less action child start more starting starts fresh called f g h = grind arith

-- an entry that is owed after a birth, a `told` or an order was owed before it
born_owed : (action : Act) (own child start starts fresh called : Bool) → (own ≡ true → start ≡ true) → owed_by action
    (own || child) start starts fresh called ≡ true → owed_by action child start starts fresh called ≡ true
born_owed action own child start starts fresh called f h = grind arith

owed_birth : (e : Entry) (i : List ℕ) (n : ℕ) (past : List Event) → open_of i past ≡ Some Start
    → is_owed e (Birth i n ∷ past) ≡ true → is_owed e past ≡ true
owed_birth e i n past started h = born_owed e.act (same_id e.id i) (has_child e.id (kept_children past))
    (is_order Start (open_of e.id past)) (starts_in e (stage_of past)) (not (is_asked e.id past)) (is_called e past)
    (λ same. ap (is_order Start) (ap (λ x. open_of x past) (same_id-is e.id i same) ∙ started)) h

order_cleared : (b : Bool) (ask : OrderKind) (o : Option OrderKind) → is_order ask (cond b None o) ≡ true
    → is_order ask o ≡ true
order_cleared b ask o h = grind arith

owed_told : (e : Entry) (i : List ℕ) (past : List Event) → is_owed e (Told i ∷ past) ≡ true → is_owed e past ≡ true
owed_told e i past h = search (owed_less, kept_before_told, order_cleared)

owed_order : (e : Entry) (b : Bool) (ask : OrderKind) (past : List Event) → same_ask Start ask ≡ false
    → owed_by e.act (has_child e.id (kept_children past)) (is_order Start (cond b (Some ask) (open_of e.id past)))
    (starts_in e (stage_of past)) (not (is_asked e.id past)) (is_called e past) ≡ true → is_owed e past ≡ true
owed_order e b ask past other h = grind arith

owed_asked : (e : Entry) (i : List ℕ) (past : List Event) → (same_id e.id i ≡ true → is_wanted e past ≡ true)
    → is_owed e (Asked i Start ∷ past) ≡ true → is_owed e past ≡ true
owed_asked e i past wanted h = grind arith

-- an entry that is found by its id is in the table
pub entry_listed : (id : List ℕ) (es : List Entry) (e : Entry) → entry_of id es ≡ Some e
    → list_any (has_id id) es ≡ true
entry_listed id [] e h = absurd (none-some e h)
entry_listed id (x ∷ es) e h = grind (arith, entry_listed id es e)

-- an implication between two tests carries over to the entries before an id, if it holds at each entry that is found by
-- its own id
before_less : (p q : Entry → Bool) (id : List ℕ) (es : List Entry) → is_distinct es ≡ true
    → ((e : Entry) → entry_of e.id es ≡ Some e → p e ≡ true → q e ≡ true) → list_any p (entries_before id es) ≡ true
    → list_any q (entries_before id es) ≡ true
before_less p q id [] distinct less h = h
before_less p q id (x ∷ es) distinct less h = at_id (same_id id x.id) h
    (before_less p q id es parts.1 (λ e found. less e (later e found (same_id e.id x.id) refl))) where
      parts : (not (list_any (has_id x.id) es) ≡ true) × (is_distinct es ≡ true)
      parts = and_parts (not (list_any (has_id x.id) es)) (is_distinct es) distinct

      later : (e : Entry) → entry_of e.id es ≡ Some e → (b : Bool) → same_id e.id x.id ≡ b
          → cond b (Some x) (entry_of e.id es) ≡ Some e
      later e found true same = both_ways (list_any (has_id x.id) es) (subst (λ i. list_any (has_id i) es ≡ true)
          (same_id-is e.id x.id same) (entry_listed e.id es e found)) (not-true (list_any (has_id x.id) es) parts.0)
      later e found false differ = found

      first : entry_of x.id (x ∷ es) ≡ Some x
      first = rw (same_id-self x.id) refl

      at_id : (b : Bool) → list_any p (cond b [] (x ∷ entries_before id es)) ≡ true → (list_any p (entries_before id es)
          ≡ true → list_any q (entries_before id es) ≡ true) → list_any q (cond b [] (x ∷ entries_before id es)) ≡ true
      at_id true h rest = h
      at_id false h rest = or_either (p x) (list_any p (entries_before id es)) h
          (λ here. or_left (q x) (list_any q (entries_before id es)) (less x first here))
          (λ more. or_right (q x) (list_any q (entries_before id es)) (rest more))

-- if each entry that is owed afterwards was owed before, no earlier entry becomes owed
ahead_less : (id : List ℕ) (happening : Event) (past : List Event) → is_distinct (table_of past) ≡ true → ((e : Entry)
    → entry_of e.id (table_of past) ≡ Some e → is_owed e (happening ∷ past) ≡ true → is_owed e past ≡ true)
    → is_owed_before id past ≡ false
    → list_any (λ e. is_owed e (happening ∷ past)) (entries_before id (table_of past)) ≡ false
ahead_less id happening past distinct less h = grind (arith, before_less)

-- an entry whose Start is due is wanted
run_wanted : (i : List ℕ) (past : List Event) → MayRun i (table_of past) past → is_distinct (table_of past) ≡ true
    → (e : Entry) → entry_of e.id (table_of past) ≡ Some e → same_id e.id i ≡ true → is_wanted e past ≡ true
run_wanted i past may distinct e found same = subst (λ (x : Entry). is_wanted x past ≡ true) is may.wanted where
  is : may.entry ≡ e
  is = same_Some may.entry e
      (sym (may.found distinct) ∙ ap (λ x. entry_of x (table_of past)) (sym (same_id-is e.id i same)) ∙ found)

pub run_placed : (i : List ℕ) (past : List Event) → MayRun i (table_of past) past → is_distinct (table_of past) ≡ true
    → has_startable_entry i past ≡ true
run_placed i past may distinct =
    rw (may.found distinct) (and_parts (starts_in may.entry (stage_of past)) _ may.wanted).0

ready_start : (i : List ℕ) (past : List Event) → is_distinct (table_of past) ≡ true → MayStart i (table_of past) past
    → Ready i (Asked i Start ∷ past)
ready_start i past distinct may = record {
  childless = may.run.childless;
  placed = run_placed i past may.run distinct;
  ahead = ahead_less i (Asked i Start) past distinct
      (λ e found. owed_asked e i past (run_wanted i past may.run distinct e found)) may.run.ahead;
  spared = may.spared;
}

-- the field `ready` is preserved
pub start_stays : (b : Bool) (ask : OrderKind) (o : Option OrderKind) → same_ask Start ask ≡ false
    → cond b (Some ask) o ≡ Some Start → o ≡ Some Start
start_stays b ask o other h = grind arith

ready_asked : (goal : Goal) (i : List ℕ) (ask : OrderKind) (past : List Event) → is_due goal (step.Order i ask) past
    ≡ true → is_distinct (table_of past) ≡ true → (id : List ℕ) → (undone_of id past ≡ Some Start → Ready id past)
    → undone_of id (Asked i ask ∷ past) ≡ Some Start → Ready id (Asked i ask ∷ past)
ready_asked goal i Start past may distinct id before h = at_id (same_id id i) refl h where
  order : MayStart i (table_of past) past
  order = due_facts goal past (step.Order i Start) may

  at_id : (b : Bool) → same_id id i ≡ b → cond b (Some Start) (undone_of id past) ≡ Some Start
      → Ready id (Asked i Start ∷ past)
  at_id true same h = let P : List ℕ → Type 0 = λ x. Ready x (Asked i Start ∷ past) in
      subst P (sym (same_id-is id i same)) (ready_start i past distinct order)
  at_id false differ h = let was = before h in record {
    childless = was.childless;
    placed = was.placed;
    ahead = ahead_less id (Asked i Start) past distinct
        (λ e found. owed_asked e i past (run_wanted i past order.run distinct e found)) was.ahead;
    spared = was.spared;
  }
ready_asked goal i Look past may distinct id before h =
    let was = before (start_stays (same_id id i) Look (undone_of id past) refl h) in
    record {
      childless = was.childless;
      placed = was.placed;
      ahead =
          ahead_less id (Asked i Look) past distinct
          (λ e found. owed_order e (same_id e.id i) Look past refl) was.ahead;
      spared = was.spared;
    }
ready_asked goal i Term past may distinct id before h =
    let was = before (start_stays (same_id id i) Term (undone_of id past) refl h) in
    record {
      childless = was.childless;
      placed = was.placed;
      ahead =
          ahead_less id (Asked i Term) past distinct
          (λ e found. owed_order e (same_id e.id i) Term past refl) was.ahead;
      spared = was.spared;
    }
ready_asked goal i Kill past may distinct id before h =
    let was = before (start_stays (same_id id i) Kill (undone_of id past) refl h) in
    record {
      childless = was.childless;
      placed = was.placed;
      ahead =
          ahead_less id (Asked i Kill) past distinct
          (λ e found. owed_order e (same_id e.id i) Kill past refl) was.ahead;
      spared = was.spared;
    }

ready_birth : (goal : Goal) (i : List ℕ) (n : ℕ) (past : List Event) → is_order Start (undone_of i past) ≡ true
    → Holds past → (id : List ℕ) → undone_of id (Birth i n ∷ past) ≡ Some Start → Ready id (Birth i n ∷ past)
ready_birth goal i n past may holds id h = cleared (same_id id i) (undone_of id past) Start other h where
  started : undone_of i past ≡ Some Start
  started = is_order-is Start (undone_of i past) may

  other : same_id id i ≡ false → undone_of id past ≡ Some Start → Ready id (Birth i n ∷ past)
  other differ is =
      let was = holds.ready id is in
      record {
        childless = or_from (same_id id i) (has_child id (kept_children past)) differ was.childless;
        placed = was.placed;
        ahead = ahead_less id (Birth i n) past holds.distinct
            (λ e found. owed_birth e i n past (undone_is_open i Start past started)) was.ahead;
        spared = or_from (is_excluded past (newborn i n past)) (list_any (is_excluded past) (kept_children past))
            (placed_spared i n past (holds.ready i started).placed) was.spared;
      }

ready_told : (i : List ℕ) (past : List Event) → Holds past → (id : List ℕ) → undone_of id (Told i ∷ past) ≡ Some Start
    → Ready id (Told i ∷ past)
ready_told i past holds id h = cleared (same_id id i) (undone_of id past) Start other h where
  other : same_id id i ≡ false → undone_of id past ≡ Some Start → Ready id (Told i ∷ past)
  other differ is =
      let was = holds.ready id is in
      record {
        childless = falsely (has_child id (kept_children (Told i ∷ past))) (has_child id (kept_children past))
            (kept_before_told (is_child_of id) i past) was.childless;
        placed = was.placed;
        ahead = ahead_less id (Told i) past holds.distinct (λ e found. owed_told e i past) was.ahead;
        spared = falsely (list_any (is_excluded past) (kept_children (Told i ∷ past)))
            (list_any (is_excluded past) (kept_children past)) (kept_before_told (is_excluded past) i past) was.spared;
      }

-- an act on another order does not change what is read for this id
act_ready : (id : List ℕ) (past : List Event) (b : Bool) → cond b None (undone_of id past) ≡ Some Start
    → (undone_of id past ≡ Some Start → Ready id past) → Ready id past
act_ready id past b h before = cleared b (undone_of id past) Start (λ differ is. before is) h

same_ready : (id : List ℕ) (happening : Event) (past : List Event) → has_child id (kept_children (happening ∷ past))
    ≡ has_child id (kept_children past) → has_startable_entry id (happening ∷ past) ≡ has_startable_entry id past
    → is_owed_before id
    (happening ∷ past) ≡ is_owed_before id past → list_any (is_excluded (happening ∷ past)) (kept_children
    (happening ∷ past)) ≡ list_any (is_excluded past) (kept_children past) → Ready id past → Ready id (happening ∷ past)
same_ready id happening past e1 e2 e3 e4 was = record {
  childless = e1 ∙ was.childless;
  placed = e2 ∙ was.placed;
  ahead = e3 ∙ was.ahead;
  spared = e4 ∙ was.spared;
}

ready_keeps : (goal : Goal) (happening : Event) (past : List Event) → may_come goal happening past ≡ true → Holds past
    → (id : List ℕ) → undone_of id (happening ∷ past) ≡ Some Start → Ready id (happening ∷ past)
ready_keeps goal (NewTable table) past may holds id h =
    no_start id past (and_parts (is_quiet past) (is_distinct table) may).0 h
ready_keeps goal (Enter s grace) past may holds id h = elim (due_facts goal past (step.Enter s grace) may)
    [ inl quiet ↦ no_start id past quiet h | inr dawn ↦ not_placed id past dawn (holds.ready id h).placed ]
ready_keeps goal (Call letter) past may holds id h = no_start id past (due_facts goal past (step.Call letter) may) h
ready_keeps goal (Power kind) past may holds id h = no_start id past (due_facts goal past (step.Power kind) may) h
ready_keeps goal (Asked i ask) past may holds id h =
    ready_asked goal i ask past may holds.distinct id (holds.ready id) h
ready_keeps goal (Birth i n) past may holds id h = ready_birth goal i n past (start_undone goal i n past may) holds id h
ready_keeps goal (Told i) past may holds id h = ready_told i past holds id h
ready_keeps goal (NoBirth i) past may holds id h =
    same_ready id (NoBirth i) past refl refl refl refl (act_ready id past (same_id id i) h (holds.ready id))
ready_keeps goal (Reaped i n status) past may holds id h =
    same_ready id (Reaped i n status) past refl refl refl refl (act_ready id past (same_id id i) h (holds.ready id))
ready_keeps goal (Still i) past may holds id h =
    same_ready id (Still i) past refl refl refl refl (act_ready id past (same_id id i) h (holds.ready id))
ready_keeps goal (NoLook i) past may holds id h =
    same_ready id (NoLook i) past refl refl refl refl (act_ready id past (same_id id i) h (holds.ready id))
ready_keeps goal (Hit i) past may holds id h =
    same_ready id (Hit i) past refl refl refl refl (act_ready id past (same_id id i) h (holds.ready id))
ready_keeps goal (Miss i) past may holds id h =
    same_ready id (Miss i) past refl refl refl refl (act_ready id past (same_id id i) h (holds.ready id))
ready_keeps goal happening past may holds id h = same_ready id happening past refl refl refl refl (holds.ready id h)

-- the field `stopping` is preserved
pub stop_excluded : (child : Child) (ask : OrderKind) (past : List Event) → stop_due child past ≡ Some ask
    → is_excluded past child ≡ true
stop_excluded child ask past h = grind arith

-- a child to which a signal is due is known, and so unreaped if its id has no open order
pub stop_unreaped : (id : List ℕ) (ask : OrderKind) (past : List Event) → ((x : List ℕ) → is_untold x past ≡ true
    → is_some (open_of x past) ≡ true) → (may : MayStop id ask past) → (p : Child → Bool) → p may.child ≡ true
    → list_any (λ child. is_child_of id child && p child) (unreaped_children past) ≡ true
stop_unreaped id ask past told may p holds = sym (same_of id p (known_children past) (unreaped_children past)
    (told_known id past (free_told id past told may.unasked)))
    ∙ may.within (λ child. is_child_of id child && p child)
    (and_from (is_child_of id may.child) (p may.child) may.own holds)

stop_may : (id : List ℕ) (ask : OrderKind) (past : List Event) → ((x : List ℕ) → is_untold x past ≡ true
    → is_some (open_of x past) ≡ true) → MayStop id ask past → may_term id past ≡ true
stop_may id ask past told may =
    stop_unreaped id ask past told may (is_excluded past) (stop_excluded may.child ask past may.due)

pub asked_may_term : (goal : Goal) (i : List ℕ) (ask : OrderKind) (past : List Event) → is_due goal
    (step.Order i ask) past ≡ true → ((x : List ℕ) → is_untold x past ≡ true → is_some (open_of x past) ≡ true)
    → is_signal ask ≡ true → may_term i past ≡ true
asked_may_term goal i ask past may told signal = grind (arith, stop_may, due_facts)

stop_keeps : (goal : Goal) (happening : Event) (past : List Event) → may_come goal happening past ≡ true → Holds past
    → (id : List ℕ) (ask : OrderKind) → undone_of id (happening ∷ past) ≡ Some ask → is_signal ask ≡ true
    → may_term id (happening ∷ past) ≡ true
stop_keeps goal (NewTable table) past may holds id ask h signal =
    no_signal id ask past (and_parts (is_quiet past) (is_distinct table) may).0 h signal
stop_keeps goal (Enter s grace) past may holds id ask h signal = elim (due_facts goal past (step.Enter s grace) may)
    [ inl quiet ↦ no_signal id ask past quiet h signal | inr dawn ↦ absurd (none_there (holds.dawn dawn)) ] where
      none_there : list_any (λ (child : Child). true) (kept_children past) ≡ false → ⊥
      none_there none = both_ways (list_any (λ (child : Child). true) (kept_children past))
          (unreaped_kept (λ child. true) past
          (any_less (λ child. is_child_of id child && is_excluded past child) (λ child. true)
          (λ child _. refl) (unreaped_children past) (holds.stopping id ask h signal))) none
stop_keeps goal (Asked i given) past may holds id ask h signal = at_id (same_id id i) refl h where
  at_id : (b : Bool) → same_id id i ≡ b → cond b (Some given) (undone_of id past) ≡ Some ask → may_term id past ≡ true
  at_id true same h = ap (λ x. may_term x past) (same_id-is id i same)
      ∙ asked_may_term goal i given past may holds.told (ap is_signal (same_Some given ask h) ∙ signal)
  at_id false differ h = holds.stopping id ask h signal
stop_keeps goal (Birth i n) past may holds id ask h signal = grind arith
stop_keeps goal (Reaped i n status) past may holds id ask h signal = cleared (same_id id i) (undone_of id past) ask
    (λ differ is. any_within (λ child. is_child_of id child && is_excluded past child)
    (λ child. not (is_child i n child))
    (other differ) (unreaped_children past) ∙ holds.stopping id ask is signal) h where
      other : same_id id i ≡ false → (child : Child) → (is_child_of id child && is_excluded past child) ≡ true
          → not (is_child i n child) ≡ true
      other differ child own = not_from (is_child i n child) (and_left (same_id i child.id) (n == child.number)
          (same_id-apart id i child.id differ (and_parts (is_child_of id child) (is_excluded past child) own).0))
stop_keeps goal (Told i) past may holds id ask h signal =
    cleared (same_id id i) (undone_of id past) ask (λ differ is. holds.stopping id ask is signal) h
stop_keeps goal (NoBirth i) past may holds id ask h signal =
    cleared (same_id id i) (undone_of id past) ask (λ differ is. holds.stopping id ask is signal) h
stop_keeps goal (Still i) past may holds id ask h signal =
    cleared (same_id id i) (undone_of id past) ask (λ differ is. holds.stopping id ask is signal) h
stop_keeps goal (NoLook i) past may holds id ask h signal =
    cleared (same_id id i) (undone_of id past) ask (λ differ is. holds.stopping id ask is signal) h
stop_keeps goal (Hit i) past may holds id ask h signal =
    cleared (same_id id i) (undone_of id past) ask (λ differ is. holds.stopping id ask is signal) h
stop_keeps goal (Miss i) past may holds id ask h signal =
    cleared (same_id id i) (undone_of id past) ask (λ differ is. holds.stopping id ask is signal) h
stop_keeps goal (_) past may holds id ask h signal = holds.stopping id ask h signal

-- the fields `distinct` and `dawn` are preserved
distinct_keeps : (goal : Goal) (happening : Event) (past : List Event) → may_come goal happening past ≡ true
    → is_distinct (table_of past) ≡ true → is_distinct (table_of (happening ∷ past)) ≡ true
distinct_keeps goal happening past may distinct = grind arith

dawn_keeps : (goal : Goal) (happening : Event) (past : List Event) → may_come goal happening past ≡ true → Holds past
    → stage_of (happening ∷ past) ≡ None → list_any (λ (child : Child). true) (kept_children (happening ∷ past)) ≡ false
dawn_keeps goal happening past may holds h = grind (arith, not_placed, born_ready, kept_before_told)

pub keeps : (goal : Goal) (happening : Event) (past : List Event) → may_come goal happening past ≡ true → Holds past
    → Holds (happening ∷ past)
keeps goal happening past may holds = record {
  distinct = distinct_keeps goal happening past may holds.distinct;
  dawn = dawn_keeps goal happening past may holds;
  told = λ id. told_keeps goal happening past may id (holds.told id);
  done = λ id ask. done_keeps goal happening past may holds.told id ask (holds.done id ask);
  ready = ready_keeps goal happening past may holds;
  stopping = stop_keeps goal happening past may holds;
}

pub begins : (table : List Entry) → is_distinct table ≡ true → Holds (NewTable table ∷ [])
begins table distinct = grind arith

-- induction: what holds at the first table and is preserved by each happening that may come holds of every sound trace
pub sound_ind : (goal : Goal) (P : List Event → Type 0) → ((table : List Entry) → is_distinct table ≡ true → P
    (NewTable table ∷ [])) → ((happening : Event) (past : List Event) → may_come goal happening past ≡ true → is_sound
    goal past ≡ true → P past → P (happening ∷ past)) → (past : List Event) → is_sound goal past ≡ true → P past
sound_ind goal P first next [] h = absurd (false≢true h)
sound_ind goal P first next (NewTable table ∷ []) h = first table h
sound_ind goal P first next (happening ∷ past) h =
    let parts = and_parts (may_come goal happening past) (is_sound goal past) h in
    next happening past parts.0 parts.1 (sound_ind goal P first next past parts.1)

-- all of this holds of every sound trace
pub sound_holds : (goal : Goal) (past : List Event) → is_sound goal past ≡ true → Holds past
sound_holds goal past h =
    sound_ind goal Holds begins (λ happening before may sound. keeps goal happening before may) past h
