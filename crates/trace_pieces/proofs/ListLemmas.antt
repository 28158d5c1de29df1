-- How the lines of a run change its list.
use Rattle.std.proofs.Common.{◌≡◌, refl, subst, sym, ℕ, Bool, true, false, if◌then◌else◌, nat_le, List, [], ◌∷◌}
use Rattle.std.proofs.Common.{◌++◌, Some, None, arith, append_assoc, append-nil, le-leb, length, length-append}
use Rattle.std.proofs.Common.{nat_lt, min}
use Rattle.trace_pieces.specs.Lists.{IsKept, IsOfRun, PieceList, all_moved_up, away_from, first_piece, keeping}
use Rattle.trace_pieces.specs.Lists.{number_behind, numbered, with_all, with_most, with_piece, without_found}
use Rattle.trace_pieces.specs.declared.lists.Piece.{Piece}

-- a list with these pieces, whose next number is known, and of which nothing was removed
abbrev rising : List Piece → ℕ → PieceList
rising front next = record { next = Some next; pieces = front; lacks_front = false; is_ending = false }

-- the list before a piece with this number is added, with the comparison of numbers as a parameter
abbrev room_if : Bool → PieceList → ℕ → PieceList
room_if rises list number =
    if rises
    then record list { next = Some (number_behind number) }
    else record list { next = None; pieces = all_moved_up number list.pieces }

pub run_pieces : (front : List Piece) (next : ℕ) (lengths : List ℕ)
    → IsOfRun (front ++ numbered next lengths) (with_all (rising front next) (away_from next lengths))
run_pieces front next [] = (sym (append-nil front), refl, refl)
run_pieces front next (length ∷ lengths) =
    let piece : Piece = record { number = next; length = Some length } in
    let later = run_pieces (front ++ (piece ∷ [])) (number_behind next) lengths in
    let whole = append_assoc front (piece ∷ []) (numbered (number_behind next) lengths) in
    let rises : nat_le next next ≡ true = le-leb next next (search arith) in
    subst (λ rises. IsOfRun (front ++ numbered next (length ∷ lengths))
    (with_all (with_piece (room_if rises (rising front next) next) next length)
    (away_from (number_behind next) lengths)))
    (sym rises) (subst (λ pieces. IsOfRun pieces (with_all (rising (front ++ (piece ∷ [])) (number_behind next))
    (away_from (number_behind next) lengths))) whole later)

-- a list with these pieces, whose next number is known, and the mark that older pieces were removed
abbrev kept : Bool → List Piece → ℕ → PieceList
kept lacks front next = record { next = Some next; pieces = front; lacks_front = lacks; is_ending = false }

-- some pieces were removed and the others are in the list, within the limit
abbrev IsFront : ℕ → List Piece → List Piece → Bool → Type 0
IsFront most taken front lacks =
    (length front ≡ min most (length (taken ++ front))) × (lacks ≡ nat_lt 0 (length taken))

-- the list without its oldest piece if it has too many, with the comparison as a parameter
abbrev most_if : Bool → PieceList → PieceList
most_if fits list = without_found list (if fits then None else first_piece list.pieces)

-- what becomes of the removed and the listed pieces when one more is added
abbrev Behind : ℕ → List Piece → List Piece → Piece → PieceList → ℕ → Type 0
Behind most taken front piece list next =
    (more : List Piece) × (rest : List Piece) × (lacks : Bool) × (list ≡ kept lacks rest next)
    × IsFront most more rest lacks × (more ++ rest ≡ taken ++ (front ++ (piece ∷ [])))

fits_still : (most : ℕ) (taken front : List Piece) (piece : Piece) (lacks : Bool) (next : ℕ)
    → IsFront most taken front lacks → nat_le (length (front ++ (piece ∷ []))) most ≡ true
    → Behind most taken front piece (kept lacks (front ++ (piece ∷ [])) next) next
fits_still most taken front piece lacks next is fits =
    (taken, front ++ (piece ∷ []), lacks, refl, (grind (arith, length-append), is.1), refl)

fits_no_more : (most : ℕ) (taken front : List Piece) (piece : Piece) (lacks : Bool) (next : ℕ)
    → IsFront most taken front lacks → nat_le (length (front ++ (piece ∷ []))) most ≡ false
    → Behind most taken front piece (most_if false (kept lacks (front ++ (piece ∷ [])) next)) next
fits_no_more most taken [] piece lacks next is full = (
  taken ++ (piece ∷ []),
  [],
  true,
  refl,
  (grind (arith, length-append), grind (arith, length-append)),
  append-nil (taken ++ (piece ∷ [])),
)
fits_no_more most taken (oldest ∷ front) piece lacks next is full = (
  taken ++ (oldest ∷ []),
  front ++ (piece ∷ []),
  true,
  refl,
  (grind (arith, length-append), grind (arith, length-append)),
  append_assoc taken (oldest ∷ []) (front ++ (piece ∷ [])),
)

after : (most : ℕ) (taken front : List Piece) (piece : Piece) (lacks : Bool) (next : ℕ) (fits : Bool)
    → IsFront most taken front lacks → nat_le (length (front ++ (piece ∷ []))) most ≡ fits
    → Behind most taken front piece (most_if fits (kept lacks (front ++ (piece ∷ [])) next)) next
after most taken front piece lacks next true is fits = fits_still most taken front piece lacks next is fits
after most taken front piece lacks next false is full = fits_no_more most taken front piece lacks next is full

pub run_kept : (most : ℕ) (taken front : List Piece) (lacks : Bool) (next : ℕ) (lengths : List ℕ)
    → IsFront most taken front lacks
    → IsKept most ((taken ++ front) ++ numbered next lengths) (keeping most (kept lacks front next) next lengths)
run_kept most taken front lacks next [] is =
    (taken, sym (append-nil (taken ++ front)), rw (append-nil (taken ++ front)) is.0, is.1, refl)
run_kept most taken front lacks next (bytes ∷ lengths) is =
    let piece : Piece = record { number = next; length = Some bytes } in
    let later = numbered (number_behind next) lengths in
    let fits = nat_le (length (front ++ (piece ∷ []))) most in
    let so_far = after most taken front piece lacks (number_behind next) fits is refl in
    let whole : (so_far.0 ++ so_far.1) ++ later ≡ (taken ++ front) ++ (piece ∷ later) =
    rw so_far.5 (grind (arith, append_assoc)) in
    let rises : nat_le next next ≡ true = le-leb next next (search arith) in
    subst (λ rises. IsKept most ((taken ++ front) ++ (piece ∷ later))
    (keeping most (with_most most (with_piece (room_if rises (kept lacks front next) next) next bytes))
    (number_behind next) lengths))
    (sym rises)
    (subst (λ list. IsKept most ((taken ++ front) ++ (piece ∷ later)) (keeping most list (number_behind next) lengths))
    (sym so_far.3)
    (subst (λ all. IsKept most all
    (keeping most (kept so_far.2 so_far.1 (number_behind next)) (number_behind next) lengths))
    whole (run_kept most so_far.0 so_far.1 so_far.2 (number_behind next) lengths so_far.4)))
