-- Beginning a round for the records of some items, one after another, and for all records.
use Rattle.child_table.proofs.Words.{◌≡◌, refl, sym, ◌∙◌, ap, Bool, true, false, ◌||◌, ℕ, ◌+◌, List, [], ◌∷◌, map}
use Rattle.child_table.proofs.Words.{arith, drop, get_or, length, ◌<◌, Keyed, SlotState}
use Rattle.child_table.proofs.Words.{with_changed, changed, after_nudge, same_id}
use Rattle.child_table.proofs.Words.{cond, ◌≤◌, Option, Some, None, count_by, sum_by-cons, KnownChild, child_of}
use Rattle.child_table.proofs.Words.{AreKeysOf, same_id-self}
use Rattle.child_table.proofs.Counted.{some_counted}
use Rattle.child_table.proofs.Indexes.{count-slot}
use Rattle.child_table.specs.Indexing.{is_among, begun_among, keys_of}
use Rattle.std.proofs.Common.{is_some}
use Rattle.std.proofs.lemmas.List.{drop_more}

or-or : (a b : Bool) → (a || (a || b)) ≡ (a || b)
or-or true b = refl
or-or false b = refl

-- beginning a round twice is the same as beginning it once
begun-twice : (slot : SlotState) → after_nudge (after_nudge slot) ≡ after_nudge slot
begun-twice slot = ap (λ look. record slot { look = look; missed = false }) (or-or (is_some slot.child) slot.look)

pub begun-none : (slots : List SlotState) → map (begun_among []) slots ≡ slots
begun-none [] = refl
begun-none (slot ∷ slots) = ap (λ rest. slot ∷ rest) (begun-none slots)

-- beginning a round for one item and then for the others
module _ (c : Keyed) (cs : List Keyed) where
  here : (one more : Bool) (slot : SlotState) → same_id c.id slot.id ≡ one → is_among cs slot ≡ more
      → begun_among (c ∷ cs) slot ≡ begun_among cs (changed c.id after_nudge slot)
  here true true slot is among = rw (is, among, begun-twice slot) refl
  here true false slot is among = rw (is, among) refl
  here false more slot is among = rw is refl

  pub begun-one : (slots : List SlotState)
      → map (begun_among (c ∷ cs)) slots ≡ map (begun_among cs) (with_changed c.id after_nudge slots)
  begun-one [] = refl
  begun-one (slot ∷ slots) = λ i. here (same_id c.id slot.id) (is_among cs slot) slot refl refl i ∷ begun-one slots i

-- what remains to be done for the items after the next one
pub begun_next : (items : List Keyed) (index : ℕ) (c : Keyed) (slots next wanted : List SlotState)
    → index < length items → c ≡ get_or items index c → next ≡ with_changed c.id after_nudge slots
    → map (begun_among (drop index items)) slots ≡ wanted → map (begun_among (drop (index + 1) items)) next ≡ wanted
begun_next items index c slots next wanted within is done left =
    let steps : drop index items ≡ c ∷ drop (index + 1) items =
    drop_more items index c within ∙ ap (λ d. d ∷ drop (index + 1) items) (sym is) in
    rw done (sym (begun-one c (drop (index + 1) items) slots)
    ∙ ap (λ cs. map (begun_among cs) slots) (sym steps) ∙ left)

-- if no signal missed a child, beginning a round for the children is beginning it for all records
module _ (cs : List Keyed) where
  here_begun : (slot : SlotState) (child : Option KnownChild) → slot.child ≡ child → slot.missed ≡ false
      → (is_some child ≡ true → is_among cs slot ≡ true) → begun_among cs slot ≡ after_nudge slot
  here_begun slot (Some child) has misses among = rw (among refl) refl
  here_begun slot None none misses among = at (is_among cs slot)
    where
      same : slot ≡ after_nudge slot
      same = ap (λ missed. record slot { missed = missed }) misses
          ∙ ap (λ (child : Option KnownChild). record slot { look = is_some child || slot.look; missed = false })
          (sym none)

      at : (b : Bool) → cond b (after_nudge slot) slot ≡ after_nudge slot
      at true = refl
      at false = same

  all_begun : (slots : List SlotState)
      → ((test : Keyed → Bool) → count_by test (keys_of child_of slots) ≤ count_by test cs)
      → count_by (λ (slot : SlotState). slot.missed) slots ≡ 0
      → map (begun_among cs) slots ≡ map after_nudge slots
  all_begun [] those none = refl
  all_begun (slot ∷ slots) those none = λ i. here_begun slot slot.child refl misses among i ∷ all_begun slots rest few i
    where
      test : Keyed → Bool
      test c = same_id c.id slot.id

      counted : count_by (λ (s : SlotState). s.missed) (slot ∷ slots)
          ≡ cond slot.missed 1 0 + count_by (λ (s : SlotState). s.missed) slots
      counted = sum_by-cons (λ (s : SlotState). cond s.missed 1 0) slot slots

      misses : slot.missed ≡ false
      misses = grind (arith, counted, none)

      few : count_by (λ (s : SlotState). s.missed) slots ≡ 0
      few = omega (arith, counted, none)

      rest : (t : Keyed → Bool) → count_by t (keys_of child_of slots) ≤ count_by t cs
      rest t = omega (arith, those t, count-slot child_of t slot slots)

      among : is_some slot.child ≡ true → is_among cs slot ≡ true
      among has =
          sym (some_counted test cs) ∙ grind (arith, those test, count-slot child_of test slot slots, same_id-self)

-- the index of the children has all of them
pub begun_by_index : (slots : List SlotState) (cs : List Keyed) → AreKeysOf child_of slots cs
    → count_by (λ (slot : SlotState). slot.missed) slots ≡ 0
    → map (begun_among cs) slots ≡ map after_nudge slots
begun_by_index slots cs those none = all_begun cs slots (λ test. omega (arith, those test)) none
