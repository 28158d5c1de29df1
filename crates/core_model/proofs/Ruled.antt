-- What the rules imply for each record, and how the rules follow from what holds for each record.
use Rattle.core_model.proofs.Words.{arith, ◌≡◌, ◌≤◌, refl, sym, ap, ◌∙◌, Bool, true, false, not, ◌&&◌, ◌||◌, cond, ℕ}
use Rattle.core_model.proofs.Words.{List, [], ◌∷◌, zip, Option, Some, None, is_some, is_none, list_any, list_all}
use Rattle.core_model.proofs.Words.{option_map, false≢true, and_parts, and_from, not-true, CLOCK_LIMIT, Act, Entry}
use Rattle.core_model.proofs.Words.{Mark, Stage, starts_by, lives_by, starts_of, lives_of, same_id, same_id-self}
use Rattle.core_model.proofs.Words.{same_id-sym, same_act-self, both_ways, is_none-is, has_id, entry_of, act_of}
use Rattle.core_model.proofs.Words.{is_distinct, Goal, in_run, SlotState, is_record_of, are_distinct, IsInOrder}
use Rattle.core_model.proofs.Words.{is_timely, are_timely, is_listed, others, rest_distinct, has_cause, is_birth_known}
use Rattle.core_model.proofs.Words.{is_order_allowed, is_started, are_starts_along, are_starts_in, are_starts_free}
use Rattle.core_model.proofs.Words.{is_excluded_in, is_stop_judged, are_marks_consistent, is_limiter_consistent}
use Rattle.core_model.proofs.Words.{is_level_wish_valid}
use Rattle.core_model.proofs.Words.{is_goal_reached, IsFit, CoreState}
use Rattle.child_table.specs.Judging.{is_excluded}
use Rattle.core_model.proofs.Each.{Each, each_from, each_fails, each_all, each_both, each_less}
use Rattle.core_model.proofs.Kept.{rules_of, fit_of}
use Rattle.core_model.proofs.RuledStarts.{along_rest}
use Rattle.core_model.proofs.RuledRecord.{IsRuled}

-- the rules for a record, with what follows from all rules: its action is that of the table, the child of an open start
-- is not excluded, and no start or signal in it is later than now
pub record IsPlaced (stage : Option Stage) (table : List Entry) (now : ℕ) (slot : SlotState) : Type 0 where
  pub rules : IsRuled stage table now slot
  pub own : slot.table_act ≡ act_of slot.id table
  pub start : is_started slot ≡ true → is_excluded_in stage slot.table_act (entry_of slot.id table) ≡ false
  pub timely : is_timely now slot ≡ true

-- a child may live in the stages in which its entry starts
lives_by-starts : (action : Act) (levels : List Mark) (now : Stage) → starts_by action levels now ≡ true
    → lives_by action levels now ≡ true
lives_by-starts action levels now h = grind arith

pub starts_live : (e : Entry) (now : Stage) → starts_of e now ≡ true → lives_of e now ≡ true
starts_live e now h = lives_by-starts e.act e.levels.items now h

-- the records are in order, and those after the first have other ids
module _ (e : Entry) (table : List Entry) (slot : SlotState) (slots : List SlotState)
    (order : IsInOrder (e ∷ table) (slot ∷ slots)) (distinct : are_distinct (slot ∷ slots) ≡ true) where
  own_entry : same_id slot.id e.id ≡ true
  own_entry = ap (same_id slot.id) (sym order.0) ∙ same_id-self slot.id

  entry_first : entry_of slot.id (e ∷ table) ≡ Some e
  entry_first = ap (λ b. cond b (Some e) (entry_of slot.id table)) own_entry

  apart : Each (λ s. same_id s.id e.id ≡ false) slots
  apart = each_less (λ s. is_record_of slot.id s ≡ false) (λ s. same_id s.id e.id ≡ false)
      (λ s other. ap (same_id s.id) (sym order.0) ∙ same_id-sym s.id slot.id ∙ other) slots
      (each_fails (is_record_of slot.id) slots (others slot.id slot slots distinct (same_id-self slot.id)))

  entry_behind : (s : SlotState) → same_id s.id e.id ≡ false → entry_of s.id (e ∷ table) ≡ entry_of s.id table
  entry_behind s other = ap (λ b. cond b (Some e) (entry_of s.id table)) other

pub own_each : (table : List Entry) (slots : List SlotState) → IsInOrder table slots → are_distinct slots ≡ true
    → Each (λ slot. slot.table_act ≡ act_of slot.id table) slots
own_each [] slots order distinct = each_less (λ s. is_none s.table_act ≡ true) (λ s. s.table_act ≡ None)
    (λ s none. is_none-is s.table_act none) slots (each_from (λ s. is_none s.table_act) slots order)
own_each (e ∷ table) [] order distinct = absurd order
own_each (e ∷ table) (slot ∷ slots) order distinct = (
  order.1 ∙ ap (option_map (λ (x : Entry). x.act)) (sym (entry_first e table slot slots order distinct)),
  each_less (λ s. (same_id s.id e.id ≡ false) × (s.table_act ≡ act_of s.id table))
      (λ s. s.table_act ≡ act_of s.id (e ∷ table)) (λ s both. both.1
      ∙ ap (option_map (λ (x : Entry). x.act)) (sym (entry_behind e table slot slots order distinct s both.0))) slots
      (each_both (λ s. same_id s.id e.id ≡ false) (λ s. s.table_act ≡ act_of s.id table) slots
      (apart e table slot slots order distinct) (own_each table slots order.2 (rest_distinct slot slots distinct))),
)

-- no id occurs twice in the table
table_listed : (id : List ℕ) (table : List Entry) (slots : List SlotState) → IsInOrder table slots
    → is_listed id slots ≡ false → list_any (has_id id) table ≡ false
table_listed id (e ∷ table) (slot ∷ slots) order none =
    at (is_record_of id slot) refl none (table_listed id table slots order.2)
  where
    at : (b : Bool) → is_record_of id slot ≡ b → (b || is_listed id slots) ≡ false → (is_listed id slots ≡ false
        → list_any (has_id id) table ≡ false) → (has_id id e || list_any (has_id id) table) ≡ false
    at true is h rest = absurd (false≢true (sym h))
    at false is h rest = ap (λ b. b || list_any (has_id id) table) (ap (same_id id) (sym order.0) ∙ is) ∙ rest h
table_listed id table slots order none = grind arith

pub table_distinct : (table : List Entry) (slots : List SlotState) → IsInOrder table slots → are_distinct slots ≡ true
    → is_distinct table ≡ true
table_distinct (e ∷ table) (slot ∷ slots) order distinct =
    let none : list_any (has_id e.id) table ≡ false = ap (λ id. list_any (has_id id) table) (sym order.0)
    ∙ table_listed slot.id table slots order.2 (others slot.id slot slots distinct (same_id-self slot.id)) in
    and_from (not (list_any (has_id e.id) table)) (is_distinct table) (ap not none)
    (table_distinct table slots order.2 (rest_distinct slot slots distinct))
table_distinct table slots order distinct = grind arith

-- an open start is for an entry that starts in the stage
start_asked : (s a b : Bool) → s ≡ true → (not s || (a && b)) ≡ true → b ≡ true
start_asked true true b h k = k
start_asked true false b h k = absurd (false≢true k)
start_asked false a b h k = absurd (false≢true h)

start_acts : (slot : SlotState) → is_started slot ≡ true → is_order_allowed slot ≡ true
    → is_some slot.table_act ≡ true
start_acts slot started allowed = grind arith

none_some : {X : Type 0} (o : Option X) → is_none o ≡ true → is_some o ≡ true → ⊥
none_some o none some = grind arith

start_each : (now : Stage) (table : List Entry) (slots : List SlotState) → IsInOrder table slots
    → are_distinct slots ≡ true → list_all is_order_allowed slots ≡ true → are_starts_along now (zip table slots) ≡ true
    → Each (λ slot. is_started slot ≡ true → is_excluded now slot.table_act (entry_of slot.id table) ≡ false) slots
start_each now [] slots order distinct allowed along = each_less (λ s. (is_none s.table_act ≡ true)
    × (is_order_allowed s ≡ true)) (λ s. is_started s ≡ true → is_excluded now s.table_act (entry_of s.id []) ≡ false)
    (λ s both started. absurd (none_some s.table_act both.0 (start_acts s started both.1))) slots
    (each_both (λ s. is_none s.table_act ≡ true) (λ s. is_order_allowed s ≡ true) slots
    (each_from (λ s. is_none s.table_act) slots order) (each_from is_order_allowed slots allowed))
start_each now (e ∷ table) [] order distinct allowed along = absurd order
start_each now (e ∷ table) (slot ∷ slots) order distinct allowed along = (
  head,
  each_less
      (λ s. (same_id s.id e.id ≡ false)
      × (is_started s ≡ true → is_excluded now s.table_act (entry_of s.id table) ≡ false))
      (λ s. is_started s ≡ true → is_excluded now s.table_act (entry_of s.id (e ∷ table)) ≡ false) (λ s both started. ap
      (is_excluded now s.table_act) (entry_behind e table slot slots order distinct s both.0) ∙ both.1 started) slots
      (each_both (λ s. same_id s.id e.id ≡ false) (λ s. is_started s ≡ true
      → is_excluded now s.table_act (entry_of s.id table) ≡ false) slots (apart e table slot slots order distinct)
      (start_each now table slots order.2 (rest_distinct slot slots distinct) (and_parts (is_order_allowed slot)
      (list_all is_order_allowed slots) allowed).1 (along_rest now e slot (zip table slots) along))),
)
  where
    head : is_started slot ≡ true → is_excluded now slot.table_act (entry_of slot.id (e ∷ table)) ≡ false
    head started = grind (arith, starts_live, start_asked, entry_first, same_act-self)

start_in : (now : Option Stage) (table : List Entry) (slots : List SlotState) → IsInOrder table slots
    → are_distinct slots ≡ true → list_all is_order_allowed slots ≡ true → are_starts_in now table slots ≡ true
    → Each (λ slot. is_started slot ≡ true → is_excluded_in now slot.table_act (entry_of slot.id table) ≡ false) slots
start_in None table slots order distinct allowed none = each_less (λ s. is_started s ≡ false)
    (λ s. is_started s ≡ true → true ≡ false) (λ s free started. both_ways (is_started s) started free) slots
    (each_fails is_started slots (not-true (list_any is_started slots) none))
start_in (Some now) table slots order distinct allowed along = start_each now table slots order distinct allowed along

-- the rules, record by record
ruled_each : (now : Option Stage) (table : List Entry) (time : ℕ) (slots : List SlotState) → list_all has_cause slots
    ≡ true → list_all (λ (slot : SlotState). is_birth_known slot.child) slots ≡ true → list_all is_order_allowed slots
    ≡ true → list_all (is_stop_judged now table) slots ≡ true → list_all are_marks_consistent slots ≡ true
    → list_all (is_limiter_consistent time) slots ≡ true → Each (IsRuled now table time) slots
ruled_each now table time [] causes births orders stops marks limiters = tt
ruled_each now table time (slot ∷ slots) causes births orders stops marks limiters =
    let cause = and_parts (has_cause slot) (list_all has_cause slots) causes in
    let birth =
    and_parts (is_birth_known slot.child) (list_all (λ (s : SlotState). is_birth_known s.child) slots) births in
    let order = and_parts (is_order_allowed slot) (list_all is_order_allowed slots) orders in
    let stop = and_parts (is_stop_judged now table slot) (list_all (is_stop_judged now table) slots) stops in
    let mark = and_parts (are_marks_consistent slot) (list_all are_marks_consistent slots) marks in
    let limiter =
    and_parts (is_limiter_consistent time slot) (list_all (is_limiter_consistent time) slots) limiters in (
      record { cause = cause.0; birth = birth.0; order = order.0; stop = stop.0; marks = mark.0; limiter = limiter.0 },
      ruled_each now table time slots cause.1 birth.1 order.1 stop.1 mark.1 limiter.1,
    )

placed_each : (now : Option Stage) (table : List Entry) (time : ℕ) (slots : List SlotState)
    → Each (IsRuled now table time) slots → Each (λ s. s.table_act ≡ act_of s.id table) slots
    → Each (λ s. is_started s ≡ true → is_excluded_in now s.table_act (entry_of s.id table) ≡ false) slots
    → Each (λ s. is_timely time s ≡ true) slots → Each (IsPlaced now table time) slots
placed_each now table time [] rules owns starts times = tt
placed_each now table time (slot ∷ slots) rules owns starts times = (
  record { rules = rules.0; own = owns.0; start = starts.0; timely = times.0 },
  placed_each now table time slots rules.1 owns.1 starts.1 times.1,
)

pub each_placed : (c : CoreState) → IsFit c → Each (IsPlaced c.fields.stage c.table c.fields.time) c.slots
each_placed c keeps = placed_each c.fields.stage c.table c.fields.time c.slots
    (ruled_each c.fields.stage c.table c.fields.time c.slots (rules_of c keeps).caused (rules_of c keeps).births
    (rules_of c keeps).orders (rules_of c keeps).stops (rules_of c keeps).marks (rules_of c keeps).limiters)
    (own_each c.table c.slots keeps.in_order (rules_of c keeps).distinct)
    (start_in c.fields.stage c.table c.slots keeps.in_order (rules_of c keeps).distinct (rules_of c keeps).orders
    (rules_of c keeps).starts)
    (each_from (is_timely c.fields.time) c.slots (rules_of c keeps).timely)

-- the rules for all records together
pub record AreRuled (now : Option Stage) (table : List Entry) (time : ℕ) (slots : List SlotState) : Type 0 where
  pub each : Each (IsRuled now table time) slots
  pub in_order : IsInOrder table slots
  pub distinct : are_distinct slots ≡ true
  pub starts : are_starts_in now table slots ≡ true
  pub free : are_starts_free slots ≡ true
  pub timely : are_timely time slots ≡ true

pub record IsHeaded (now : Option Stage) (time : ℕ) (other : Option Goal) (settled : Bool) (goal : Goal)
    (booted : Bool) : Type 0 where
  pub clock : time ≤ CLOCK_LIMIT
  pub wish : is_level_wish_valid now other ≡ true
  pub announced : (not settled || in_run now) ≡ true
  pub reached : is_goal_reached now goal booted ≡ true

pub fields_kept : (c : CoreState) → IsFit c
    → IsHeaded c.fields.stage c.fields.time c.fields.level_wish c.fields.announced c.fields.goal c.fields.booted
fields_kept c keeps = record {
  clock = (rules_of c keeps).clock;
  wish = (rules_of c keeps).wish;
  announced = (rules_of c keeps).announced;
  reached = (rules_of c keeps).reached;
}

pub all_kept : (c : CoreState) → IsFit c → AreRuled c.fields.stage c.table c.fields.time c.slots
all_kept c keeps = record {
  each = ruled_each c.fields.stage c.table c.fields.time c.slots (rules_of c keeps).caused (rules_of c keeps).births
      (rules_of c keeps).orders (rules_of c keeps).stops (rules_of c keeps).marks (rules_of c keeps).limiters;
  in_order = keeps.in_order;
  distinct = (rules_of c keeps).distinct;
  starts = (rules_of c keeps).starts;
  free = (rules_of c keeps).free;
  timely = (rules_of c keeps).timely;
}

pub kept_by : (c : CoreState) → AreRuled c.fields.stage c.table c.fields.time c.slots → IsHeaded c.fields.stage
    c.fields.time c.fields.level_wish c.fields.announced c.fields.goal c.fields.booted → IsFit c
kept_by c ruled fields = fit_of c ruled.in_order (record {
  distinct = ruled.distinct;
  caused = each_all (IsRuled c.fields.stage c.table c.fields.time) has_cause (λ s own. own.cause) c.slots ruled.each;
  births = each_all (IsRuled c.fields.stage c.table c.fields.time) (λ (s : SlotState). is_birth_known s.child)
      (λ s own. own.birth) c.slots ruled.each;
  orders =
      each_all (IsRuled c.fields.stage c.table c.fields.time) is_order_allowed (λ s own. own.order) c.slots ruled.each;
  starts = ruled.starts;
  free = ruled.free;
  stops = each_all (IsRuled c.fields.stage c.table c.fields.time) (is_stop_judged c.fields.stage c.table)
      (λ s own. own.stop) c.slots ruled.each;
  marks =
      each_all (IsRuled c.fields.stage c.table c.fields.time) are_marks_consistent
      (λ s own. own.marks) c.slots ruled.each;
  limiters = each_all (IsRuled c.fields.stage c.table c.fields.time) (is_limiter_consistent c.fields.time)
      (λ s own. own.limiter) c.slots ruled.each;
  timely = ruled.timely;
  clock = fields.clock;
  wish = fields.wish;
  announced = fields.announced;
  reached = fields.reached;
})
