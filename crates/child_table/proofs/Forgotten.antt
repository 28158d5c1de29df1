-- An id has at most one item, so the list without the items of the id is the list without the item at its position.
use Rattle.child_table.proofs.Words.{◌≡◌, refl, ◌∙◌, ap, subst, Bool, true, false, cond, List, [], ◌∷◌, ℕ, zero, suc}
use Rattle.child_table.proofs.Words.{◌+◌, ◌≤◌, ◌<◌, length, slice_get, Option, Some, None, arith, IfSome, sum_by-cons}
use Rattle.child_table.proofs.Words.{passes, without_id, Keyed, same_id, is_record_of, are_distinct, record_by_id}
use Rattle.child_table.proofs.Words.{SlotState, Vec, false≢true, remove, AreKeysOf, IsIndex, count_for, is_for}
use Rattle.child_table.specs.Indexing.{keys_of}
use Rattle.child_table.proofs.Found.{is_listed, others, rest_distinct}
use Rattle.child_table.proofs.Indexes.{HasOwnIds, count-slot}

count-for : (id : List ℕ) (c : Keyed) (cs : List Keyed)
    → count_for id (c ∷ cs) ≡ cond (same_id id c.id) 1 0 + count_for id cs
count-for id c cs = sum_by-cons (λ (d : Keyed). cond (same_id id d.id) 1 0) c cs

pub none_for : (id : List ℕ) (cs : List Keyed) → count_for id cs ≡ 0 → without_id id cs ≡ cs
none_for id [] none = refl
none_for id (c ∷ cs) none = grind (arith, count-for id c cs, none_for id cs)

one_there : (id : List ℕ) (cs : List Keyed) (i : ℕ) (c : Keyed) → slice_get cs i ≡ Some c → same_id id c.id ≡ true
    → 1 ≤ count_for id cs
one_there id [] i c at own = absurd (cc)
one_there id (x ∷ cs) zero c at own = let same : x ≡ c = cc in grind (arith, count-for id x cs)
one_there id (x ∷ cs) (suc i) c at own = omega (arith, count-for id x cs, one_there id cs i c at own)

pub removed_for : (id : List ℕ) (cs : List Keyed) (i : ℕ) (c : Keyed) → slice_get cs i ≡ Some c → same_id id c.id ≡ true
    → count_for id cs ≡ 1 → remove cs i ≡ without_id id cs
removed_for id [] i c at own one = absurd (cc)
removed_for id (x ∷ cs) zero c at own one = let same : x ≡ c = cc in grind (arith, count-for id x cs, none_for id cs)
removed_for id (x ∷ cs) (suc i) c at own one =
    grind (arith, count-for id x cs, one_there id cs i c at own, removed_for id cs i c at own)

pub removed_at : (id : List ℕ) (cs : List Keyed) (i : ℕ) → is_for id (slice_get cs i) ≡ true → count_for id cs ≡ 1
    → remove cs i ≡ without_id id cs
removed_at id cs i own one = by (slice_get cs i) refl own
  where
    by : (item : Option Keyed) → slice_get cs i ≡ item → is_for id item ≡ true → remove cs i ≡ without_id id cs
    by None at own = absurd (false≢true own)
    by (Some c) at own = removed_for id cs i c at own one

pub within : (id : List ℕ) (cs : List Keyed) (i : ℕ) → is_for id (slice_get cs i) ≡ true → i < length cs
within id [] i own = absurd (false≢true own)
within id (c ∷ cs) zero own = omega arith
within id (c ∷ cs) (suc i) own = let rest = within id cs i own in omega arith

-- the items of the records
module _ (key_of : SlotState → Option Keyed) (own_ids : HasOwnIds key_of) where
  own : (id : List ℕ) (slot : SlotState) (b : Bool) → is_record_of id slot ≡ b
      → passes (λ c. same_id id c.id) (key_of slot) ≡ cond b (passes (λ _. true) (key_of slot)) 0
  own id slot b is = by (key_of slot) (own_ids slot)
    where
      by : (item : Option Keyed) → IfSome item (λ c. c.id ≡ slot.id)
          → passes (λ c. same_id id c.id) item ≡ cond b (passes (λ _. true) item) 0
      by None same = at b
        where
          at : (b : Bool) → ◌≡◌ {A = ℕ} 0 (cond b 0 0)
          at true = refl
          at false = refl
      by (Some c) same = ap (λ k. cond (same_id id k) 1 0) same ∙ ap (λ b. cond b 1 0) is

  none_of : (id : List ℕ) (slots : List SlotState) → is_listed id slots ≡ false
      → count_for id (keys_of key_of slots) ≡ 0
  none_of id [] none = refl
  none_of id (slot ∷ slots) none =
      grind (arith, own id slot, count-slot key_of (λ c. same_id id c.id) slot slots, none_of id slots)

  one_of : (id : List ℕ) (slots : List SlotState) (slot : SlotState) → are_distinct slots ≡ true
      → record_by_id id slots ≡ Some slot → count_for id (keys_of key_of slots) ≡ passes (λ _. true) (key_of slot)
  one_of id [] slot distinct is = absurd (cc)
  one_of id (first ∷ slots) slot distinct is = grind (
    arith,
    own id first,
    count-slot key_of (λ c. same_id id c.id) first slots,
    others,
    none_of id slots,
    rest_distinct,
    one_of id slots slot,
  )

  one_item : (id : List ℕ) (slots : List SlotState) (slot : SlotState) (cs : List Keyed) → are_distinct slots ≡ true
      → record_by_id id slots ≡ Some slot → AreKeysOf key_of slots cs
      → count_for id cs ≡ passes (λ _. true) (key_of slot)
  one_item id slots slot cs distinct is those = those (λ c. same_id id c.id) ∙ one_of id slots slot distinct is

  -- the same for an index
  pub item_before : (id : List ℕ) (slot : SlotState) {A : Type 0} {was slots : List SlotState} (index : Vec Keyed A)
      (before : Option Keyed) → was ≡ slots → are_distinct slots ≡ true → record_by_id id slots ≡ Some slot
      → before ≡ key_of slot → IsIndex key_of was index → count_for id index.items ≡ passes (λ _. true) before
  item_before id slot {slots = slots} index before is distinct found own h =
      rw own (one_item id slots slot index.items distinct found (subst (λ xs. IsIndex key_of xs index) is h).those)
