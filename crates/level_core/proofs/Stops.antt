-- Positions up to which no signal is due: a search may begin there, and changes preserve them.
use Rattle.level_core.proofs.Words.{◌≡◌, ◌≢◌, refl, ap, Bool, true, false, not, ◌&&◌, ◌-◌, arith, cond, ℕ, zero, suc}
use Rattle.level_core.proofs.Words.{◌<◌, List, [], ◌∷◌, map, drop, slice_get, Option, Some, None, is_none, is_some}
use Rattle.level_core.proofs.Words.{list_any, has_id, Entry, Start, Look, Term, Kill, Answer, SlotState, after_order}
use Rattle.level_core.proofs.Words.{after_hold, after_answer, is_record_of, are_distinct, changed, with_changed}
use Rattle.level_core.proofs.Words.{after_answer_to}
use Rattle.level_core.proofs.Words.{called_if, with_called, stop_step, stop_among, no_signal_due_at, NoSignalDueBefore}
use Rattle.init_words.specs.declared.orders.OrderKind.{OrderKind}
use Rattle.child_table.specs.Lists.{is_over_in, without}
use Rattle.child_table.proofs.Found.{others, rest_distinct, unchanged, without_none}
use Rattle.level_core.proofs.Moved.{is_place, other_before}

none_is : {X : Type 0} (found : Option X) → is_none found ≡ true → found ≡ None
none_is None h = refl
none_is (Some x) h = absurd (cc)

-- a change of the record at a position does not change the others
same_elsewhere : (id : List ℕ) (change : SlotState → SlotState) (slots : List SlotState) (i position : ℕ)
    → are_distinct slots ≡ true → is_place id position slots ≡ true → i ≢ position
    → slice_get (with_changed id change slots) i ≡ slice_get slots i
same_elsewhere id change [] i position distinct at other = refl
same_elsewhere id change (slot ∷ slots) zero zero distinct at other = absurd (other refl)
same_elsewhere id change (slot ∷ slots) zero (suc position) distinct at other =
    rw (other_before id slot slots position distinct at) refl
same_elsewhere id change (slot ∷ slots) (suc i) zero distinct at other =
    rw (unchanged id change slots (others id slot slots distinct at)) refl
same_elsewhere id change (slot ∷ slots) (suc i) (suc position) distinct at other =
    same_elsewhere id change slots i position (rest_distinct slot slots distinct) at (λ is. other (ap suc is))

no_order : (child missed : Bool) → (child && false && not missed) ≡ false
no_order true missed = refl
no_order false missed = refl

module _ (grace now : ℕ) where
  -- a search may begin at the position
  pub stop_from : (slots : List SlotState) (to : ℕ) → NoSignalDueBefore grace now to slots
      → stop_among grace now slots ≡ stop_among grace now (drop to slots)
  stop_from slots zero none = refl
  stop_from [] (suc to) none = refl
  stop_from (slot ∷ slots) (suc to) none = rw (none_is (stop_step grace now slot) (none 0 (omega arith)))
      (stop_from slots to (λ i lt. none (suc i) (omega arith)))

  -- if no signal is due for the record, none is due after the change
  abbrev KeepsUnsignalled : (SlotState → SlotState) → SlotState → Type 0
  KeepsUnsignalled change slot = is_none (stop_step grace now slot) ≡ true
      → is_none (stop_step grace now (change slot)) ≡ true

  unsignalled_map : (change : SlotState → SlotState) → ((slot : SlotState) → KeepsUnsignalled change slot)
      → (slots : List SlotState) (to : ℕ) → NoSignalDueBefore grace now to slots
      → NoSignalDueBefore grace now to (map change slots)
  unsignalled_map change keeps slots to none i lt = at slots i (none i lt)
    where
      at : (slots : List SlotState) (i : ℕ) → no_signal_due_at grace now slots i ≡ true
          → no_signal_due_at grace now (map change slots) i ≡ true
      at [] i h = h
      at (slot ∷ slots) zero h = keeps slot h
      at (slot ∷ slots) (suc i) h = at slots i h

  unsignalled_changed : (id : List ℕ) (change : SlotState → SlotState)
      → ((slot : SlotState) → KeepsUnsignalled change slot) → (slots : List SlotState) (to : ℕ)
      → NoSignalDueBefore grace now to slots → NoSignalDueBefore grace now to (with_changed id change slots)
  unsignalled_changed id change keeps slots to none =
      unsignalled_map (changed id change) (λ slot h. by slot (is_record_of id slot) h) slots to none
    where
      by : (slot : SlotState) (b : Bool) → is_none (stop_step grace now slot) ≡ true
          → is_none (stop_step grace now (cond b (change slot) slot)) ≡ true
      by slot true h = keeps slot h
      by slot false h = h

  pub unsignalled_held : (id : List ℕ) (slots : List SlotState) (to : ℕ) → NoSignalDueBefore grace now to slots
      → NoSignalDueBefore grace now to (with_changed id (after_hold now) slots)
  unsignalled_held id slots to none = unsignalled_changed id (after_hold now) (λ slot h. h) slots to none

  order_keeps : (ask : OrderKind) (slot : SlotState) → KeepsUnsignalled (after_order ask now) slot
  order_keeps Start slot h = rw (no_order (is_some slot.child) slot.missed) refl
  order_keeps Look slot h = rw (no_order (is_some slot.child) slot.missed) refl
  order_keeps Term slot h = rw (no_order (is_some slot.child) slot.missed) refl
  order_keeps Kill slot h = rw (no_order (is_some slot.child) slot.missed) refl

  pub unsignalled_ordered : (id : List ℕ) (ask : OrderKind) (slots : List SlotState) (to : ℕ)
      → NoSignalDueBefore grace now to slots
      → NoSignalDueBefore grace now to (with_changed id (after_order ask now) slots)
  unsignalled_ordered id ask slots to none =
      unsignalled_changed id (after_order ask now) (order_keeps ask) slots to none

  call_keeps : (b : Bool) (slot : SlotState) → KeepsUnsignalled (called_if b) slot
  call_keeps true slot h = h
  call_keeps false slot h = h

  pub unsignalled_called : (named : Entry → Bool) (table : List Entry) (slots : List SlotState) (to : ℕ)
      → NoSignalDueBefore grace now to slots → NoSignalDueBefore grace now to (with_called named table slots)
  unsignalled_called named table slots to none = unsignalled_map
      (λ slot. called_if (list_any (λ e. has_id slot.id e && named e) table) slot)
      (λ slot h. call_keeps (list_any (λ e. has_id slot.id e && named e) table) slot h) slots to none

  -- an answer removes at most one record
  without_at : (id : List ℕ) (slots : List SlotState) (i : ℕ) → are_distinct slots ≡ true
      → no_signal_due_at grace now slots i ≡ true → no_signal_due_at grace now slots (suc i) ≡ true
      → no_signal_due_at grace now (without id slots) i ≡ true
  without_at id [] i distinct own next = refl
  without_at id (slot ∷ slots) i distinct own next =
      by (is_record_of id slot) refl i own next (λ j. without_at id slots j (rest_distinct slot slots distinct))
    where
      by : (b : Bool) → is_record_of id slot ≡ b → (i : ℕ) → no_signal_due_at grace now (slot ∷ slots) i ≡ true
          → no_signal_due_at grace now slots i ≡ true
          → ((j : ℕ) → no_signal_due_at grace now slots j ≡ true → no_signal_due_at grace now slots (suc j) ≡ true
          → no_signal_due_at grace now (without id slots) j ≡ true)
          → no_signal_due_at grace now (cond (not b) (slot ∷ without id slots) (without id slots)) i ≡ true
      by true is i own next later = rw (without_none id slots (others id slot slots distinct is)) next
      by false is zero own next later = own
      by false is (suc i) own next later = later i own next

  pub unsignalled_told : (id : List ℕ) (answer : Answer) (slots : List SlotState) (to position : ℕ)
      → are_distinct slots ≡ true → is_place id position slots ≡ true → NoSignalDueBefore grace now to slots
      → (i : ℕ) → i < to - 1 → i ≢ position → no_signal_due_at grace now (after_answer_to id answer now slots) i ≡ true
  unsignalled_told id answer slots to position distinct at none i lt other = by (is_over_in id answer slots)
    where
      by : (over : Bool) → no_signal_due_at grace now
          (cond over (without id slots) (with_changed id (after_answer answer now) slots)) i ≡ true
      by true = without_at id slots i distinct (none i (omega arith)) (none (suc i) (omega arith))
      by false = rw (same_elsewhere id (after_answer answer now) slots i position distinct at other)
          (none i (omega arith))
