-- What holds for each record, through changes of the list of records; and that no id has two.
use Rattle.core_model.proofs.Words.{arith, ◌≡◌, refl, subst, ℕ, Bool, true, false, ◌&&◌, ◌||◌, cond, List, [], ◌∷◌}
use Rattle.core_model.proofs.Words.{◌++◌, map, filter, Some, list_any, list_all, and_parts, and_from, or_parts}
use Rattle.core_model.proofs.Words.{not-true, any_less, both_ways, or_either, any_filtered, falsely, SlotState}
use Rattle.core_model.proofs.Words.{is_record_of, are_distinct, record_by_id, changed, with_changed, is_listed, others}
use Rattle.core_model.proofs.Words.{rest_distinct, same_id}
use Rattle.core_model.proofs.Allowed.{has_with}

abbrev pub Each : (SlotState → Type 0) → List SlotState → Type 0
Each P [] = Unit {0}
Each P (slot ∷ slots) = P slot × Each P slots

pub each_always : (P : SlotState → Type 0) → ((slot : SlotState) → P slot) → (slots : List SlotState)
    → Each P slots
each_always P always [] = tt
each_always P always (slot ∷ slots) = (always slot, each_always P always slots)

-- from a test that all records pass, or that none passes
pub each_from : (p : SlotState → Bool) (slots : List SlotState) → list_all p slots ≡ true
    → Each (λ slot. p slot ≡ true) slots
each_from p [] all = tt
each_from p (slot ∷ slots) all = let parts = and_parts (p slot) (list_all p slots) all in
    (parts.0, each_from p slots parts.1)

pub each_fails : (p : SlotState → Bool) (slots : List SlotState) → list_any p slots ≡ false
    → Each (λ slot. p slot ≡ false) slots
each_fails p [] none = tt
each_fails p (slot ∷ slots) none = let parts = or_parts (p slot) (list_any p slots) none in
    (parts.0, each_fails p slots parts.1)

pub each_all : (P : SlotState → Type 0) (p : SlotState → Bool) → ((slot : SlotState) → P slot → p slot ≡ true)
    → (slots : List SlotState) → Each P slots → list_all p slots ≡ true
each_all P p passes [] each = refl
each_all P p passes (slot ∷ slots) each =
    and_from (p slot) (list_all p slots) (passes slot each.0) (each_all P p passes slots each.1)

-- two properties together
pub each_both : (P Q : SlotState → Type 0) (slots : List SlotState) → Each P slots → Each Q slots
    → Each (λ slot. P slot × Q slot) slots
each_both P Q [] first second = tt
each_both P Q (slot ∷ slots) first second = ((first.0, second.0), each_both P Q slots first.1 second.1)

pub each_less : (P Q : SlotState → Type 0) → ((slot : SlotState) → P slot → Q slot) → (slots : List SlotState)
    → Each P slots → Each Q slots
each_less P Q less [] each = tt
each_less P Q less (slot ∷ slots) each = (less slot each.0, each_less P Q less slots each.1)

-- for the records after each was changed, some removed or others appended, and for the record that is found
pub each_map : (P Q : SlotState → Type 0) (change : SlotState → SlotState) → ((slot : SlotState) → P slot
    → Q (change slot)) → (slots : List SlotState) → Each P slots → Each Q (map change slots)
each_map P Q change keeps [] each = tt
each_map P Q change keeps (slot ∷ slots) each = (keeps slot each.0, each_map P Q change keeps slots each.1)

pub each_filter : (P Q : SlotState → Type 0) (p : SlotState → Bool) → ((slot : SlotState) → p slot ≡ true → P slot
    → Q slot) → (slots : List SlotState) → Each P slots → Each Q (filter p slots)
each_filter P Q p keeps [] each = tt
each_filter P Q p keeps (slot ∷ slots) each = at (p slot) refl (each_filter P Q p keeps slots each.1)
  where
    at : (b : Bool) → p slot ≡ b → Each Q (filter p slots) → Each Q (cond b (slot ∷ filter p slots) (filter p slots))
    at true is rest = (keeps slot is each.0, rest)
    at false is rest = rest

pub each_joined : (P : SlotState → Type 0) (slots more : List SlotState) → Each P slots → Each P more
    → Each P (slots ++ more)
each_joined P [] more first second = second
each_joined P (slot ∷ slots) more first second = (first.0, each_joined P slots more first.1 second)

pub each_found : (P : SlotState → Type 0) (id : List ℕ) (slots : List SlotState) (slot : SlotState)
    → record_by_id id slots ≡ Some slot → Each P slots → P slot
each_found P id [] slot is each = absurd (cc)
each_found P id (first ∷ slots) slot is each = at (is_record_of id first) is (each_found P id slots slot)
  where
    at : (b : Bool) → cond b (Some first) (record_by_id id slots) ≡ Some slot
        → (record_by_id id slots ≡ Some slot → Each P slots → P slot) → P slot
    at true is later = let same : first ≡ slot = cc in subst P same each.0
    at false is later = later is each.1

-- for the records after that of one id was changed
pub each_changed : (P Q : SlotState → Type 0) (id : List ℕ) (change : SlotState → SlotState)
    → ((slot : SlotState) → P slot → Q slot) → ((slot : SlotState) → is_record_of id slot ≡ true → P slot
    → Q (change slot)) → (slots : List SlotState) → Each P slots → Each Q (with_changed id change slots)
each_changed P Q id change stays keeps slots each =
    each_map P Q (changed id change) (λ slot own. at slot (is_record_of id slot) refl own) slots each
  where
    at : (slot : SlotState) (b : Bool) → is_record_of id slot ≡ b → P slot → Q (cond b (change slot) slot)
    at slot true is own = keeps slot is own
    at slot false is own = stays slot own

-- if no id has two records, what holds for one record of the id holds for each
none_own : (id : List ℕ) (P : SlotState → Type 0) (slots : List SlotState) → is_listed id slots ≡ false
    → Each (λ slot. is_record_of id slot ≡ true → P slot) slots
none_own id P slots none = each_less (λ slot. is_record_of id slot ≡ false) (λ slot. is_record_of id slot ≡ true → P
    slot) (λ slot other own. both_ways (is_record_of id slot) own other) slots (each_fails (is_record_of id) slots none)

pub each_own : (id : List ℕ) (p : SlotState → Bool) (slots : List SlotState) → are_distinct slots ≡ true
    → has_with id p slots ≡ true → Each (λ slot. is_record_of id slot ≡ true → p slot ≡ true) slots
each_own id p [] distinct there = tt
each_own id p (slot ∷ slots) distinct there =
    at (is_record_of id slot) refl there (each_own id p slots (rest_distinct slot slots distinct))
  where
    at : (b : Bool) → is_record_of id slot ≡ b → (b && p slot || has_with id p slots) ≡ true
        → (has_with id p slots ≡ true → Each (λ s. is_record_of id s ≡ true → p s ≡ true) slots)
        → Each (λ s. is_record_of id s ≡ true → p s ≡ true) (slot ∷ slots)
    at true is h later =
        let none = others id slot slots distinct is in (
          λ own. or_either (p slot) (has_with id p slots) h (λ passes. passes)
              (λ more. both_ways (is_listed id slots) (any_less (λ (s : SlotState). is_record_of id s && p s)
              (is_record_of id) (λ s both. (and_parts (is_record_of id s) (p s) both).0) slots more) none),
          none_own id (λ s. p s ≡ true) slots none,
        )
    at false is h later = (λ own. both_ways (is_record_of id slot) own is, later h)

-- a change that keeps the ids, and removing records, keep the ids distinct
listed_map : (change : SlotState → SlotState) → ((slot : SlotState) → (change slot).id ≡ slot.id)
    → (id : List ℕ) (slots : List SlotState) → is_listed id (map change slots) ≡ is_listed id slots
listed_map change keeps id [] = refl
listed_map change keeps id (slot ∷ slots) = λ i. same_id id (keeps slot i) || listed_map change keeps id slots i

pub distinct_map : (change : SlotState → SlotState) → ((slot : SlotState) → (change slot).id ≡ slot.id)
    → (slots : List SlotState) → are_distinct slots ≡ true → are_distinct (map change slots) ≡ true
distinct_map change keeps [] distinct = grind (arith, is_listed, listed_map)
distinct_map change keeps (slot ∷ slots) distinct =
    grind (arith, distinct_map change keeps slots, is_listed, listed_map)

pub distinct_filter : (p : SlotState → Bool) (slots : List SlotState) → are_distinct slots ≡ true
    → are_distinct (filter p slots) ≡ true
distinct_filter p [] distinct = grind (arith, is_listed, falsely, any_filtered, not-true)
distinct_filter p (slot ∷ slots) distinct =
    grind (arith, distinct_filter p slots, is_listed, falsely, any_filtered, not-true)
