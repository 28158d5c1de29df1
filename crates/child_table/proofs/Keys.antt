-- The keys of the records: the numbers of their children, and the times of the SIGTERMs to them.
use Rattle.child_table.proofs.Words.{◌≡◌, refl, sym, ◌∙◌, ap, cond, Bool, true, false, not, ◌&&◌, ℕ, ◌+◌, List, []}
use Rattle.child_table.proofs.Words.{◌∷◌, nat_lt, Option, Some, None, ◌==◌, arith, same_id, same_id-is, KnownChild}
use Rattle.child_table.proofs.Words.{list_any, count_by, and_parts, or_from, not-true, le-ltb, eq-eqb, sum_by-cons}
use Rattle.child_table.proofs.Words.{Keyed, SlotState, is_termed, is_termed_at, is_termed_before, IsFirstTermed}
use Rattle.child_table.proofs.Words.{termed_at, termed_of, are_sorted, AreKeysOf, passes, first_key, find, ◌≤◌}
use Rattle.child_table.proofs.Words.{option_map, child_of, IsFound, is_numbered, id_of_child}
use Rattle.child_table.specs.declared.children.Stop.{Stop}
use Rattle.child_table.specs.declared.children.Stop.TheVariants.{Due, Termed, Killed}
use Rattle.child_table.specs.declared.index.Found.TheVariants as found
use Rattle.child_table.specs.Indexing.{keys_of}
use Rattle.child_table.proofs.Counted.{some_counted}
use Rattle.child_table.proofs.Indexes.{count-slot, HasOwnIds}

-- an item has the id of its record
pub own_child : HasOwnIds child_of
own_child slot = grind arith

pub own_termed : HasOwnIds termed_of
own_termed slot = grind arith

-- the number of items that pass a test is the number of records that pass a corresponding test
count_records : (key_of : SlotState → Option Keyed) (test : Keyed → Bool) (p : SlotState → Bool)
    → ((slot : SlotState) → passes test (key_of slot) ≡ cond (p slot) 1 0) → (slots : List SlotState)
    → count_by test (keys_of key_of slots) ≡ count_by p slots
count_records key_of test p same [] = refl
count_records key_of test p same (slot ∷ slots) = count-slot key_of test slot slots
    ∙ ap (λ n. n + count_by test (keys_of key_of slots)) (same slot) ∙ ap (λ n. cond (p slot) 1 0 + n)
    (count_records key_of test p same slots) ∙ sym (sum_by-cons (λ (s : SlotState). cond (p s) 1 0) slot slots)

-- the items with the number of a child
numbered : (n : ℕ) (slot : SlotState) → passes (λ c. c.key == n) (child_of slot) ≡ cond (is_numbered n slot.child) 1 0
numbered n slot = by slot.child
  where
    by : (o : Option KnownChild) → passes (λ c. c.key == n) (option_map
        (λ (child : KnownChild). record { key = child.number; id = slot.id }) o) ≡ cond (is_numbered n o) 1 0
    by None = refl
    by (Some child) = refl

numbered_id : (n : ℕ) (id : List ℕ) (slot : SlotState) → passes (λ c. c.key == n && same_id id c.id) (child_of slot)
    ≡ cond (is_numbered n slot.child && same_id id slot.id) 1 0
numbered_id n id slot = by slot.child
  where
    by : (o : Option KnownChild) → passes (λ c. c.key == n && same_id id c.id) (option_map (λ (child : KnownChild).
        record { key = child.number; id = slot.id }) o) ≡ cond (is_numbered n o && same_id id slot.id) 1 0
    by None = refl
    by (Some child) = refl

-- the number of children with this number
abbrev numbers : ℕ → List SlotState → ℕ
numbers n slots = count_by (λ (slot : SlotState). is_numbered n slot.child) slots

abbrev numbers_of : ℕ → List ℕ → List SlotState → ℕ
numbers_of n id slots = count_by (λ (slot : SlotState). is_numbered n slot.child && same_id id slot.id) slots

numbers-cons : (n : ℕ) (slot : SlotState) (slots : List SlotState)
    → numbers n (slot ∷ slots) ≡ cond (is_numbered n slot.child) 1 0 + numbers n slots
numbers-cons n slot slots = sum_by-cons (λ (s : SlotState). cond (is_numbered n s.child) 1 0) slot slots

numbers_of-cons : (n : ℕ) (id : List ℕ) (slot : SlotState) (slots : List SlotState)
    → numbers_of n id (slot ∷ slots) ≡ cond (is_numbered n slot.child && same_id id slot.id) 1 0 + numbers_of n id slots
numbers_of-cons n id slot slots =
    sum_by-cons (λ (s : SlotState). cond (is_numbered n s.child && same_id id s.id) 1 0) slot slots

unnumbered : (n : ℕ) (slots : List SlotState) → numbers n slots ≡ 0 → id_of_child n slots ≡ None
unnumbered n [] none = refl
unnumbered n (slot ∷ slots) none = here (is_numbered n slot.child) (numbers-cons n slot slots) (unnumbered n slots)
  where
    here : (b : Bool) → numbers n (slot ∷ slots) ≡ cond b 1 0 + numbers n slots
        → (numbers n slots ≡ 0 → id_of_child n slots ≡ None)
        → option_map (λ (s : SlotState). s.id)
        (cond b (Some slot) (find (λ (s : SlotState). is_numbered n s.child) slots)) ≡ None
    here true e later = absurd (omega (arith, e, none))
    here false e later = later (omega (arith, e, none))

fewer : (n : ℕ) (id : List ℕ) (slots : List SlotState) → numbers_of n id slots ≤ numbers n slots
fewer n id [] = omega arith
fewer n id (slot ∷ slots) = omega (
  arith,
  at (is_numbered n slot.child) (same_id id slot.id),
  fewer n id slots,
  numbers-cons n slot slots,
  numbers_of-cons n id slot slots,
)
  where
    at : (b d : Bool) → cond (b && d) 1 0 ≤ cond b 1 0
    at true true = omega arith
    at true false = omega arith
    at false d = omega arith

only_numbered : (n : ℕ) (id : List ℕ) (slots : List SlotState) → numbers n slots ≡ 1 → numbers_of n id slots ≡ 1
    → id_of_child n slots ≡ Some id
only_numbered n id [] one both = absurd (omega arith)
only_numbered n id (slot ∷ slots) one both = here (is_numbered n slot.child) (same_id id slot.id) refl
    (numbers-cons n slot slots) (numbers_of-cons n id slot slots) (only_numbered n id slots)
  where
    here : (b d : Bool) → same_id id slot.id ≡ d → numbers n (slot ∷ slots) ≡ cond b 1 0 + numbers n slots
        → numbers_of n id (slot ∷ slots) ≡ cond (b && d) 1 0 + numbers_of n id slots
        → (numbers n slots ≡ 1 → numbers_of n id slots ≡ 1 → id_of_child n slots ≡ Some id)
        → option_map (λ (s : SlotState). s.id)
        (cond b (Some slot) (find (λ (s : SlotState). is_numbered n s.child) slots)) ≡ Some id
    here true true own e k later = ap Some (sym (same_id-is id slot.id own))
    here true false own e k later = absurd (omega (arith, e, k, one, both, fewer n id slots))
    here false d own e k later = later (omega (arith, e, one)) (omega (arith, k, both))

pub found_no_id : (n : ℕ) (slots : List SlotState) (cs : List Keyed) → AreKeysOf child_of slots cs
    → IsFound n cs found.None → id_of_child n slots ≡ None
found_no_id n slots cs those none = unnumbered n slots (sym (count_records child_of (λ c. c.key == n)
    (λ s. is_numbered n s.child) (numbered n) slots) ∙ sym (those (λ c. c.key == n)) ∙ none)

pub found_id : (n : ℕ) (id : List ℕ) (slots : List SlotState) (cs : List Keyed) → AreKeysOf child_of slots cs
    → IsFound n cs (found.One id) → id_of_child n slots ≡ Some id
found_id n id slots cs those one = only_numbered n id slots
    (sym (count_records child_of (λ c. c.key == n) (λ s. is_numbered n s.child) (numbered n) slots)
    ∙ sym (those (λ c. c.key == n)) ∙ one.0)
    (sym (count_records child_of (λ c. c.key == n && same_id id c.id) (λ s. is_numbered n s.child && same_id id s.id)
    (numbered_id n id) slots) ∙ sym (those (λ c. c.key == n && same_id id c.id)) ∙ one.1)

-- the items of the SIGTERMs
module _ (test : Keyed → Bool) (p : Option Stop → Bool) (none : p None ≡ false) (due : p (Some Due) ≡ false)
    (killed : (time : ℕ) → p (Some (Killed time)) ≡ false)
    (termed : (id : List ℕ) (time : ℕ) → test (record { key = time; id = id }) ≡ p (Some (Termed time))) where
  tested : (id : List ℕ) (stop : Option Stop) → passes test (termed_at id stop) ≡ cond (p stop) 1 0
  tested id stop = grind arith

  any_termed : (slots : List SlotState) (cs : List Keyed) → AreKeysOf termed_of slots cs
      → list_any (λ (slot : SlotState). p slot.stop) slots ≡ list_any test cs
  any_termed slots cs those = sym (some_counted (λ (slot : SlotState). p slot.stop) slots) ∙ ap (λ n. not (n == 0))
      (sym (those test ∙ count_records termed_of test (λ s. p s.stop) (λ s. tested s.id s.stop) slots))
      ∙ some_counted test cs

pub first_is_first : (slots : List SlotState) (cs : List Keyed) → are_sorted cs ≡ true → AreKeysOf termed_of slots cs
    → IsFirstTermed slots (first_key cs)
first_is_first slots [] sorted those =
    any_termed (λ _. true) is_termed refl refl (λ time. refl) (λ id time. refl) slots [] those
first_is_first slots (c ∷ cs) sorted those =
    let least = not-true (list_any (λ (d : Keyed). nat_lt d.key c.key) cs)
    (and_parts (not (list_any (λ (d : Keyed). nat_lt d.key c.key) cs)) (are_sorted cs) sorted).0 in (
      any_termed (λ d. d.key == c.key) (is_termed_at c.key) refl refl (λ time. refl) (λ id time. refl) slots
          (c ∷ cs) those ∙ rw (eq-eqb c.key c.key refl) refl,
      any_termed (λ d. nat_lt d.key c.key) (is_termed_before c.key) refl refl (λ time. refl) (λ id time. refl) slots
          (c ∷ cs) those ∙ or_from (nat_lt c.key c.key) (list_any (λ (d : Keyed). nat_lt d.key c.key) cs)
          (le-ltb c.key c.key (omega arith)) least,
    )
