-- The rules that a fit core obeys, one by one.
use Rattle.core_model.proofs.Words.{arith, ◌≡◌, ◌≤◌, ℕ, Bool, true, not, ◌&&◌, ◌||◌, List, [], ◌∷◌, nat_le, Option}
use Rattle.core_model.proofs.Words.{list_all, and_parts, leb-true, le-leb, Entry, Stage, CLOCK_LIMIT, in_run}
use Rattle.core_model.proofs.Words.{SlotState, are_distinct, IsInOrder, is_timely, are_timely, IsFit, has_cause}
use Rattle.core_model.proofs.Words.{is_birth_known, is_order_allowed, is_stop_judged, are_marks_consistent}
use Rattle.core_model.proofs.Words.{is_limiter_consistent}
use Rattle.core_model.proofs.Words.{are_starts_in, are_starts_free, is_level_wish_valid, is_goal_reached}
use Rattle.core_model.proofs.Words.{do_fields_obey}
use Rattle.core_model.proofs.Words.{does_record_obey, do_records_obey, CoreState}

-- tests of all records, one by one and together
all_parts : (p q : SlotState → Bool) (slots : List SlotState)
    → list_all (λ (s : SlotState). p s && q s) slots ≡ true → (list_all p slots ≡ true) × (list_all q slots ≡ true)
all_parts p q [] h = grind arith
all_parts p q (slot ∷ slots) h = grind (arith, all_parts p q slots)

all_from : (p q : SlotState → Bool) (slots : List SlotState) → list_all p slots ≡ true → list_all q slots ≡ true
    → list_all (λ (s : SlotState). p s && q s) slots ≡ true
all_from p q [] h k = grind arith
all_from p q (slot ∷ slots) h k = grind (arith, all_from p q slots)

module _ (stage : Option Stage) (table : List Entry) (now : ℕ) where
  abbrev to_stop : SlotState → Bool
  to_stop slot = has_cause slot && is_birth_known slot.child && is_order_allowed slot && is_stop_judged stage table slot

  abbrev to_marks : SlotState → Bool
  to_marks slot = to_stop slot && are_marks_consistent slot

  abbrev to_limiter : SlotState → Bool
  to_limiter slot = to_marks slot && is_limiter_consistent now slot

  -- each of the rules for single records
  record EachKept (slots : List SlotState) : Type 0 where
    caused : list_all has_cause slots ≡ true
    births : list_all (λ (s : SlotState). is_birth_known s.child) slots ≡ true
    orders : list_all is_order_allowed slots ≡ true
    stops : list_all (is_stop_judged stage table) slots ≡ true
    marks : list_all are_marks_consistent slots ≡ true
    limiters : list_all (is_limiter_consistent now) slots ≡ true
    timely : are_timely now slots ≡ true

  each_kept : (slots : List SlotState) → list_all (does_record_obey stage table now) slots ≡ true → EachKept slots
  each_kept slots h =
      let fifth = all_parts to_limiter (is_timely now) slots h in
      let fourth = all_parts to_marks (is_limiter_consistent now) slots fifth.0 in
      let third = all_parts to_stop are_marks_consistent slots fourth.0 in
      let second = all_parts (λ (s : SlotState). has_cause s && is_birth_known s.child && is_order_allowed s)
      (is_stop_judged stage table) slots third.0 in
      let first =
      all_parts (λ (s : SlotState). has_cause s && is_birth_known s.child) is_order_allowed slots second.0 in
      let own = all_parts has_cause (λ (s : SlotState). is_birth_known s.child) slots first.0 in
      record {
        caused = own.0;
        births = own.1;
        orders = first.1;
        stops = second.1;
        marks = third.1;
        limiters = fourth.1;
        timely = fifth.1;
      }

  all_kept : (slots : List SlotState) → EachKept slots → list_all (does_record_obey stage table now) slots ≡ true
  all_kept slots each =
      all_from to_limiter (is_timely now) slots
      (all_from to_marks (is_limiter_consistent now) slots
      (all_from to_stop are_marks_consistent slots
      (all_from (λ (s : SlotState). has_cause s && is_birth_known s.child && is_order_allowed s)
      (is_stop_judged stage table) slots
      (all_from (λ (s : SlotState). has_cause s && is_birth_known s.child) is_order_allowed slots (all_from has_cause
      (λ (s : SlotState). is_birth_known s.child) slots each.caused each.births) each.orders) each.stops)
      each.marks)
      each.limiters)
      each.timely

pub record Rules (c : CoreState) : Type 0 where
  pub distinct : are_distinct c.slots ≡ true
  pub caused : list_all has_cause c.slots ≡ true
  pub births : list_all (λ (slot : SlotState). is_birth_known slot.child) c.slots ≡ true
  pub orders : list_all is_order_allowed c.slots ≡ true
  pub starts : are_starts_in c.fields.stage c.table c.slots ≡ true
  pub free : are_starts_free c.slots ≡ true
  pub stops : list_all (is_stop_judged c.fields.stage c.table) c.slots ≡ true
  pub marks : list_all are_marks_consistent c.slots ≡ true
  pub limiters : list_all (is_limiter_consistent c.fields.time) c.slots ≡ true
  pub timely : are_timely c.fields.time c.slots ≡ true
  pub clock : c.fields.time ≤ CLOCK_LIMIT
  pub wish : is_level_wish_valid c.fields.stage c.fields.level_wish ≡ true
  pub announced : (not c.fields.announced || in_run c.fields.stage) ≡ true
  pub reached : is_goal_reached c.fields.stage c.fields.goal c.fields.booted ≡ true

pub rules_of : (c : CoreState) → IsFit c → Rules c
rules_of c fit =
    let both =
    and_parts (do_fields_obey c.fields) (do_records_obey c.fields.stage c.table c.fields.time c.slots) fit.kept in
    let third = and_parts (nat_le c.fields.time CLOCK_LIMIT && is_level_wish_valid c.fields.stage c.fields.level_wish
    && (not c.fields.announced || in_run c.fields.stage))
    (is_goal_reached c.fields.stage c.fields.goal c.fields.booted) both.0 in
    let second = and_parts (nat_le c.fields.time CLOCK_LIMIT && is_level_wish_valid c.fields.stage c.fields.level_wish)
    (not c.fields.announced || in_run c.fields.stage) third.0 in
    let first =
    and_parts (nat_le c.fields.time CLOCK_LIMIT) (is_level_wish_valid c.fields.stage c.fields.level_wish) second.0 in
    let all = and_parts (are_distinct c.slots && are_starts_in c.fields.stage c.table c.slots
    && are_starts_free c.slots) (list_all (does_record_obey c.fields.stage c.table c.fields.time) c.slots) both.1 in
    let some =
    and_parts (are_distinct c.slots && are_starts_in c.fields.stage c.table c.slots) (are_starts_free c.slots) all.0 in
    let few = and_parts (are_distinct c.slots) (are_starts_in c.fields.stage c.table c.slots) some.0 in
    let each = each_kept c.fields.stage c.table c.fields.time c.slots all.1 in
    record {
      distinct = few.0;
      caused = each.caused;
      births = each.births;
      orders = each.orders;
      starts = few.1;
      free = some.1;
      stops = each.stops;
      marks = each.marks;
      limiters = each.limiters;
      timely = each.timely;
      clock = leb-true c.fields.time CLOCK_LIMIT first.0;
      wish = first.1;
      announced = second.1;
      reached = third.1;
    }

pub fit_of : (c : CoreState) → IsInOrder c.table c.slots → Rules c → IsFit c
fit_of c order rules = grind (arith, le-leb, all_kept)
