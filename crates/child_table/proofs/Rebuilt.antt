-- Records that are added one after another.
use Rattle.child_table.proofs.Words.{◌≡◌, refl, sym, ◌∙◌, ap, Bool, true, false, ℕ, List, [], ◌∷◌, ◌++◌, arith}
use Rattle.child_table.proofs.Words.{append_assoc, list_all-append, false≢true, SlotState, is_timely, are_timely}
use Rattle.child_table.proofs.Words.{are_distinct, has_record_of, record_by_id, Option, Some, None}
use Rattle.std.proofs.Common.{is_some}
use Rattle.child_table.proofs.Adopted.{new_of}
use Rattle.child_table.proofs.Found.{distinct_pushed}

-- the next record has its times within the limit, because all of them have
pub timely_next : (limit : ℕ) (made : List SlotState) (slot : SlotState) (rest all : List SlotState)
    → made ++ slot ∷ rest ≡ all → are_timely limit all ≡ true → is_timely limit slot ≡ true
timely_next limit made slot rest all is timely = grind (arith, list_all-append)

-- if the id of the next record has one already, an id has two
pub doubled : (made : List SlotState) (slot : SlotState) (rest all : List SlotState) → made ++ slot ∷ rest ≡ all
    → has_record_of slot.id made ≡ true → are_distinct all ≡ false
doubled made slot rest all is has = by (are_distinct all) refl
  where
    by : (b : Bool) → are_distinct all ≡ b → b ≡ false
    by true distinct = let none = new_of made slot rest all (append_assoc made (slot ∷ []) rest ∙ is) distinct in
        absurd (false≢true (ap is_some (sym none) ∙ has))
    by false distinct = refl

-- without a record of its id, the next record leaves the records distinct
pub distinct_next : (made : List SlotState) (slot : SlotState) → has_record_of slot.id made ≡ false
    → are_distinct made ≡ true → are_distinct (made ++ slot ∷ []) ≡ true
distinct_next made slot none distinct = by (record_by_id slot.id made) refl
  where
    by : (r : Option SlotState) → record_by_id slot.id made ≡ r → are_distinct (made ++ slot ∷ []) ≡ true
    by None new = distinct_pushed slot made new distinct
    by (Some s) new = absurd (false≢true (sym none ∙ ap is_some new))
