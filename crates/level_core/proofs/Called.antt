-- The entries of a table are called one by one.
use Rattle.level_core.proofs.Words.{◌≡◌, suc, zero, refl, ◌∙◌, ap, ℕ, ◌+◌, ◌<◌, arith, Bool, true, false, ◌&&◌, ◌||◌}
use Rattle.level_core.proofs.Words.{cond, List, [], ◌∷◌, ◌++◌, length, take, slice_get, Some, None, is_some, list_any}
use Rattle.level_core.proofs.Words.{Entry, has_id, SlotState, after_call, record_by_id, has_record_of, changed}
use Rattle.level_core.proofs.Words.{with_changed, IsInOrder, called_if, with_called, called_id}
use Rattle.init_words.specs.Ids.{same_id}
use Rattle.init_words.proofs.Same.{same_id-self, same_id-sym}

-- an entry of the table has a record
found : (id : List ℕ) (slot : SlotState) (slots : List SlotState) (b : Bool)
    → is_some (record_by_id id slots) ≡ true → is_some (cond b (Some slot) (record_by_id id slots)) ≡ true
found id slot slots true h = refl
found id slot slots false h = h

pub entry_record : (table : List Entry) (slots : List SlotState) (position : ℕ) (e : Entry) → IsInOrder table slots
    → slice_get table position ≡ Some e → has_record_of e.id slots ≡ true
entry_record [] slots position e order at = cc
entry_record (x ∷ table) [] position e order at = absurd order
entry_record (x ∷ table) (slot ∷ slots) zero e order at = let same : x ≡ e = cc in
    ap (λ (b : Bool). is_some (cond b (Some slot) (record_by_id e.id slots)))
    (ap (same_id e.id) (order.0 ∙ ap (λ (y : Entry). y.id) same) ∙ same_id-self e.id)
entry_record (x ∷ table) (slot ∷ slots) (suc position) e order at =
    found e.id slot slots (same_id e.id slot.id) (entry_record table slots position e order.2 at)

pub still_record : (named : Entry → Bool) (table : List Entry) (id : List ℕ) (slots : List SlotState)
    → has_record_of id (with_called named table slots) ≡ has_record_of id slots
still_record named table id [] = grind arith
still_record named table id (slot ∷ slots) = grind (arith, still_record named table id slots)

-- one more entry: its record is called if the entry is named
any_more : {X : Type 0} (p : X → Bool) (x : X) (xs : List X) → list_any p (xs ++ x ∷ []) ≡ (p x || list_any p xs)
any_more p x [] = grind arith
any_more p x (y ∷ ys) = grind (arith, any_more p x ys)

call_again : (same before : Bool) (slot : SlotState)
    → called_if (same && true || before) slot ≡ cond same (after_call (called_if before slot)) (called_if before slot)
call_again true true slot = refl
call_again true false slot = refl
call_again false true slot = refl
call_again false false slot = refl

not_again : (same before : Bool) (slot : SlotState) → called_if (same && false || before) slot ≡ called_if before slot
not_again true before slot = refl
not_again false before slot = refl

module _ (named : Entry → Bool) (e : Entry) (es : List Entry) where
  abbrev before : SlotState → Bool
  before slot = list_any (λ x. has_id slot.id x && named x) es

  one_called : named e ≡ true → (slot : SlotState) → called_if (list_any (λ x. has_id slot.id x && named x)
      (es ++ e ∷ [])) slot ≡ changed e.id after_call (called_if (before slot) slot)
  one_called is slot = grind (arith, called_if, any_more, has_id, call_again, after_call, same_id-sym, called_id)

  one_left : named e ≡ false → (slot : SlotState)
      → called_if (list_any (λ x. has_id slot.id x && named x) (es ++ e ∷ [])) slot ≡ called_if (before slot) slot
  one_left is slot = ap (λ b. called_if b slot) (any_more (λ x. has_id slot.id x && named x) e es) ∙ ap (λ n. called_if
      (same_id slot.id e.id && n || before slot) slot) is ∙ not_again (same_id slot.id e.id) (before slot) slot

  all_called : named e ≡ true → (slots : List SlotState)
      → with_called named (es ++ e ∷ []) slots ≡ with_changed e.id after_call (with_called named es slots)
  all_called is [] = refl
  all_called is (slot ∷ slots) = λ i. one_called is slot i ∷ all_called is slots i

  all_left : named e ≡ false → (slots : List SlotState)
      → with_called named (es ++ e ∷ []) slots ≡ with_called named es slots
  all_left is slots = grind (arith, one_left)

  pub one_more : (slots : List SlotState) → cond (named e) (with_changed e.id after_call (with_called named es slots))
      (with_called named es slots) ≡ with_called named (es ++ e ∷ []) slots
  one_more slots = grind (arith, Bool, with_changed, after_call, with_called, all_called, all_left)

pub none_called : (named : Entry → Bool) (slots : List SlotState) → slots ≡ with_called named [] slots
none_called named [] = refl
none_called named (slot ∷ slots) = ap (λ rest. slot ∷ rest) (none_called named slots)

-- one more item of a list than so far
pub take_one : {X : Type 0} (xs : List X) (i : ℕ) (x : X) → slice_get xs i ≡ Some x
    → take (i + 1) xs ≡ take i xs ++ x ∷ []
take_one [] i x is = absurd (cc)
take_one (y ∷ xs) zero x is = let at : y ≡ x = cc in rw at refl
take_one (y ∷ xs) (suc i) x is = let more : suc i + 1 ≡ suc (i + 1) = omega arith in
    rw more (ap (λ rest. y ∷ rest) (take_one xs i x is))

pub none_past : {X : Type 0} {P : Type 0} (xs : List X) (i : ℕ) → i < length xs → slice_get xs i ≡ None → P
none_past [] i within none = absurd (omega arith)
none_past (y ∷ xs) zero within none = absurd (cc)
none_past (y ∷ xs) (suc i) within none = none_past xs i (omega arith) none
