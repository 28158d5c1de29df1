-- Records are rebuilt one after another, along the table.
use Rattle.level_core.proofs.Words.{◌≡◌, ◌≤◌, ◌<◌, ◌+◌, refl, sym, ◌∙◌, ap, cond, ℕ, zero, suc, Bool, true, false, ◌&&◌}
use Rattle.level_core.proofs.Words.{List, [], ◌∷◌, ◌++◌, length, drop, get_or, Option, Some, None, slice_get}
use Rattle.level_core.proofs.Words.{append_assoc, add-one, arith, drop-nil, drop-cons, option_map, Entry, SlotState}
use Rattle.level_core.proofs.Words.{PlainSlot, record_from, records_along, is_whole, is_for, are_whole, record_read}
use Rattle.inittab_text.proofs.Entries.{drop-slice_get}

past_end : {X : Type 0} (xs : List X) (i : ℕ) → slice_get xs i ≡ None → (drop i xs ≡ []) × (drop (i + 1) xs ≡ [])
past_end (x ∷ xs) (suc i) none =
    let more : suc i + 1 ≡ suc (i + 1) = omega arith in
    let later = past_end xs i none in
    (later.0, rw more later.1)
past_end xs i none = grind (arith, drop-nil, zero)

none_from : {X : Type 0} (xs : List X) (i : ℕ) → length xs ≤ i → drop i xs ≡ []
none_from [] i past = drop-nil i
none_from (x ∷ xs) zero past = absurd (omega arith)
none_from (x ∷ xs) (suc i) past = none_from xs i (omega arith)

-- the record at a position, and those after it
whole_at : (table : List Entry) (records : List PlainSlot) (i : ℕ) (r : PlainSlot)
    → drop i records ≡ r ∷ drop (i + 1) records → are_whole (drop i table) (drop i records)
    ≡ ((is_for (slice_get table i) r && is_whole r) && are_whole (drop (i + 1) table) (drop (i + 1) records))
whole_at table records i r next = at (slice_get table i) refl
  where
    at : (found : Option Entry) → slice_get table i ≡ found → are_whole (drop i table) (drop i records)
        ≡ ((is_for (slice_get table i) r && is_whole r) && are_whole (drop (i + 1) table) (drop (i + 1) records))
    at None is = let end = past_end table i is in rw (is, next, end.0, end.1) refl
    at (Some e) is = rw (is, next, drop-slice_get table i e is) refl

records_at : (table : List Entry) (records : List PlainSlot) (i : ℕ) (r : PlainSlot) → drop i records
    ≡ r ∷ drop (i + 1) records → records_along (drop i table) (drop i records) ≡ record_from (option_map
    (λ (e : Entry). e.act) (slice_get table i)) r ∷ records_along (drop (i + 1) table) (drop (i + 1) records)
records_at table records i r next = at (slice_get table i) refl
  where
    at : (found : Option Entry) → slice_get table i ≡ found → records_along (drop i table) (drop i records)
        ≡ record_from (option_map (λ (e : Entry). e.act) (slice_get table i)) r
        ∷ records_along (drop (i + 1) table) (drop (i + 1) records)
    at None is = let end = past_end table i is in rw (is, next, end.0, end.1) refl
    at (Some e) is = rw (is, next, drop-slice_get table i e is) refl

read_none : (b : Bool) (slot : SlotState) → None ≡ cond b (Some slot) None → b ≡ false
read_none true slot is = absurd (cc)
read_none false slot is = refl

read_some : (b : Bool) (slot made : SlotState) → Some made ≡ cond b (Some slot) None → (b ≡ true) × (made ≡ slot)
read_some true slot made is = (refl, cc)
read_some false slot made is = absurd (cc)

pub too_few : (table : List Entry) (records : List PlainSlot) → length records < length table
    → are_whole table records ≡ false
too_few (e ∷ table) (r ∷ records) few = ends (is_for (Some e) r && is_whole r) (too_few table records (omega arith))
  where
    ends : (b : Bool) → are_whole table records ≡ false → (b && are_whole table records) ≡ false
    ends true h = h
    ends false h = refl
too_few table records few = grind arith

-- the records so far are whole and were rebuilt
pub record AreMade (table : List Entry) (records : List PlainSlot) (made : List SlotState) (i : ℕ) : Type 0 where
  pub whole : are_whole table records ≡ are_whole (drop i table) (drop i records)
  pub slots : made ++ records_along (drop i table) (drop i records) ≡ records_along table records

module _ (table : List Entry) (records : List PlainSlot) (made : List SlotState) (i : ℕ)
    (so_far : AreMade table records made i) where
  pub not_whole : (r : PlainSlot) → i < length records → r ≡ get_or records i r
      → None ≡ record_read (slice_get table i) r → are_whole table records ≡ false
  not_whole r h is none =
      let next : drop i records ≡ r ∷ drop (i + 1) records = rw (add-one, drop-cons records i r h, ← is) refl in
      let fault = read_none (is_for (slice_get table i) r && is_whole r)
      (record_from (option_map (λ (e : Entry). e.act) (slice_get table i)) r) none in
      so_far.whole ∙ whole_at table records i r next ∙ rw fault refl

  pub one_made : (r : PlainSlot) (slot : SlotState) → i < length records → r ≡ get_or records i r
      → Some slot ≡ record_read (slice_get table i) r → AreMade table records (made ++ slot ∷ []) (i + 1)
  one_made r slot h is read =
      let next : drop i records ≡ r ∷ drop (i + 1) records = rw (add-one, drop-cons records i r h, ← is) refl in
      let found = read_some (is_for (slice_get table i) r && is_whole r)
      (record_from (option_map (λ (e : Entry). e.act) (slice_get table i)) r) slot read in
      record {
        whole = so_far.whole ∙ whole_at table records i r next ∙ rw found.0 refl;
        slots = append_assoc made (slot ∷ []) _ ∙ ap (λ s. made ++ s ∷ records_along (drop (i + 1) table) (drop
            (i + 1) records)) found.1 ∙ ap (λ rest. made ++ rest) (sym (records_at table records i r next))
            ∙ so_far.slots;
      }
