-- A rebuilt core obeys the rules and has the state from which it was built; and a core that obeys the rules is
-- determined by its state.
use Rattle.core_model.proofs.Words.{◌≡◌, ◌≢◌, refl, sym, ◌∙◌, ap, cond, ℕ, Bool, true, false, ◌&&◌, ◌==◌, List, [], ◌∷◌}
use Rattle.core_model.proofs.Words.{map, Option, Some, None, is_none, length, arith, list_all, option_map, and_parts}
use Rattle.core_model.proofs.Words.{and_from, eqb-true, false≢true, Act, Entry, same_id, same_id-is, same_id-self}
use Rattle.core_model.proofs.Words.{LimiterState, KnownChild, SlotState, act_born_with, is_limited_record, IsInOrder}
use Rattle.core_model.proofs.Words.{IsFit, is_birth_known, is_limiter_consistent, is_limit_kept, is_unused}
use Rattle.core_model.proofs.Words.{is_non_decreasing}
use Rattle.core_model.proofs.Words.{is_kept, CoreState}
use Rattle.core_model.specs.declared.parts.PlainSlot.{PlainSlot}
use Rattle.core_model.specs.Parts.{SavedState, record_of, state_of}
use Rattle.core_model.specs.Rebuilding.{living_of, record_from, records_along, are_paired, is_whole, is_for, are_whole}
use Rattle.core_model.specs.Rebuilding.{core_of}
use Rattle.core_model.proofs.Kept.{rules_of}

-- a child is determined by its number and its action
living_is : (child : Option KnownChild)
    → living_of (option_map (λ (c : KnownChild). c.number) child) (act_born_with child) ≡ child
living_is child = grind arith

known_paired : (child : Option KnownChild) → is_birth_known child ≡ true
    → are_paired (option_map (λ (c : KnownChild). c.number) child) (act_born_with child) ≡ true
known_paired child h = grind arith

-- a record that is written and read back is the same
slot_is : (slot : SlotState) (act : Option Act) → slot.table_act ≡ act → record_from act (record_of slot) ≡ slot
slot_is slot act is = λ i. record slot { table_act = (sym is) i; child = living_is slot.child i }

record_is : (act : Option Act) (r : PlainSlot) → is_whole r ≡ true → record_of (record_from act r) ≡ r
record_is act r whole = grind arith

rest_are : (slots : List SlotState) → list_all (λ (slot : SlotState). is_none slot.table_act) slots ≡ true
    → map (record_from None) (map record_of slots) ≡ slots
rest_are [] h = grind arith
rest_are (slot ∷ slots) h = grind (arith, rest_are slots)

pub slots_are : (table : List Entry) (slots : List SlotState) → IsInOrder table slots
    → records_along table (map record_of slots) ≡ slots
slots_are [] slots order = rest_are slots order
slots_are (e ∷ table) [] order = absurd order
slots_are (e ∷ table) (slot ∷ slots) order = λ i. slot_is slot (Some e.act) order.1 i ∷ slots_are table slots order.2 i

rest_made : (records : List PlainSlot) → list_all is_whole records ≡ true
    → map record_of (map (record_from None) records) ≡ records
rest_made [] h = grind arith
rest_made (r ∷ records) h = grind (arith, rest_made records)

whole_parts : (table : List Entry) (e : Entry) (r : PlainSlot) (records : List PlainSlot) → are_whole (e ∷ table)
    (r ∷ records) ≡ true → (is_for (Some e) r ≡ true) × (is_whole r ≡ true) × (are_whole table records ≡ true)
whole_parts table e r records h = grind arith

records_are : (table : List Entry) (records : List PlainSlot) → are_whole table records ≡ true
    → map record_of (records_along table records) ≡ records
records_are (e ∷ table) (r ∷ records) h =
    let parts = whole_parts table e r records h in
    λ i. record_is (Some e.act) r parts.1 i ∷ records_are table records parts.2 i
records_are table records h = grind (arith, rest_made)

rest_order : (records : List PlainSlot)
    → list_all (λ (slot : SlotState). is_none slot.table_act) (map (record_from None) records) ≡ true
rest_order [] = refl
rest_order (r ∷ records) = rest_order records

pub made_order : (table : List Entry) (records : List PlainSlot) → are_whole table records ≡ true
    → IsInOrder table (records_along table records)
made_order [] records h = rest_order records
made_order (e ∷ table) [] h = absurd (false≢true h)
made_order (e ∷ table) (r ∷ records) h =
    let parts = whole_parts table e r records h in
    (same_id-is r.id e.id parts.0, refl, made_order table records parts.2)

-- what obeys the rules can be rebuilt
limit_ordered : (now : ℕ) (b : Bool) (limiter : LimiterState)
    → cond b (is_limit_kept now limiter) (is_unused limiter) ≡ true → is_non_decreasing limiter.starts ≡ true
limit_ordered now true limiter h = grind arith
limit_ordered now false limiter h =
    empty limiter.starts (and_parts (length limiter.starts == 0) (is_none limiter.held) h).0
  where
    empty : (starts : List ℕ) → (length starts == 0) ≡ true → is_non_decreasing starts ≡ true
    empty [] none = refl
    empty (time ∷ times) none = let same : length (time ∷ times) ≡ 0 = eqb-true (length (time ∷ times)) 0 none in
        absurd (omega arith)

record_whole : (now : ℕ) (slot : SlotState) → is_birth_known slot.child ≡ true → is_limiter_consistent now slot ≡ true
    → is_whole (record_of slot) ≡ true
record_whole now slot known kept = and_from _ (is_non_decreasing slot.limiter.starts) (known_paired slot.child known)
    (limit_ordered now (is_limited_record slot) slot.limiter kept)

abbrev are_known : List SlotState → Bool
are_known slots = list_all (λ (slot : SlotState). is_birth_known slot.child) slots

rest_whole : (now : ℕ) (slots : List SlotState) → are_known slots ≡ true
    → list_all (is_limiter_consistent now) slots ≡ true → list_all is_whole (map record_of slots) ≡ true
rest_whole now [] known kept = refl
rest_whole now (slot ∷ slots) known kept =
    let births = and_parts (is_birth_known slot.child) (are_known slots) known in
    let limits = and_parts (is_limiter_consistent now slot) (list_all (is_limiter_consistent now) slots) kept in
    and_from (is_whole (record_of slot)) (list_all is_whole (map record_of slots))
    (record_whole now slot births.0 limits.0) (rest_whole now slots births.1 limits.1)

kept_whole : (now : ℕ) (table : List Entry) (slots : List SlotState) → IsInOrder table slots → are_known slots ≡ true
    → list_all (is_limiter_consistent now) slots ≡ true → are_whole table (map record_of slots) ≡ true
kept_whole now (e ∷ table) (slot ∷ slots) order known kept =
    let births = and_parts (is_birth_known slot.child) (are_known slots) known in
    let limits = and_parts (is_limiter_consistent now slot) (list_all (is_limiter_consistent now) slots) kept in
    and_from (is_for (Some e) (record_of slot) && is_whole (record_of slot)) (are_whole table (map record_of slots))
    (and_from (same_id slot.id e.id) (is_whole (record_of slot))
    (ap (same_id slot.id) (sym order.0) ∙ same_id-self slot.id) (record_whole now slot births.0 limits.0))
    (kept_whole now table slots order.2 births.1 limits.1)
kept_whole now table slots order known kept = grind (arith, rest_whole)

-- what is built from whole records that pass the tests obeys the rules and has the state
pub made_kept : (s : SavedState) → are_whole s.table s.records ≡ true
    → is_kept s.fields s.table (records_along s.table s.records) ≡ true → IsFit (core_of s)
made_kept s whole kept = record { in_order = made_order s.table s.records whole; kept = kept }

pub made_state : (s : SavedState) → are_whole s.table s.records ≡ true → state_of (core_of s) ≡ s
made_state s whole = λ i. record s { records = records_are s.table s.records whole i }

-- all records of a core that obeys the rules are whole
rules_whole : (core : CoreState) → IsFit core → are_whole core.table (map record_of core.slots) ≡ true
rules_whole core fit = let rules = rules_of core fit in
    kept_whole core.fields.time core.table core.slots fit.in_order rules.births rules.limiters

-- a core that obeys the rules is the one built from its state
pub core_is : (core : CoreState) → IsFit core → core_of (state_of core) ≡ core
core_is core rules = λ i. record core { slots = slots_are core.table core.slots rules.in_order i }

-- so no core that obeys the rules has a state that is not whole, or fails a test
pub unfit_whole : (s : SavedState) → are_whole s.table s.records ≡ false → (core : CoreState) → IsFit core
    → state_of core ≢ s
unfit_whole s fault core rules is =
    false≢true (sym fault ∙ ap (λ (x : SavedState). are_whole x.table x.records) (sym is) ∙ rules_whole core rules)

pub unfit_kept : (s : SavedState) → is_kept s.fields s.table (records_along s.table s.records) ≡ false
    → (core : CoreState) → IsFit core → state_of core ≢ s
unfit_kept s fault core rules = grind (arith, slots_are)
