-- The file name in a path, and the numbers of pieces among file names.
use Rattle.std.proofs.Common.{◌≡◌, refl, ◌∙◌, ap, ℕ, true, false, List, [], ◌∷◌, ◌++◌, Option, Some, None, arith}
use Rattle.std.proofs.Common.{append-nil, append_assoc, length, length-append, ◌<◌}
use Rattle.std.specs.List.{filter_map, cons_option}
use Rattle.text_lines.specs.Lines.{cut, has_byte}
use Rattle.text_lines.proofs.CutLemmas.{cut-parts, cut-lacks}
use Rattle.text_lines.proofs.PieceLemmas.{pieces_of-cut, pieces_of-whole}
use Rattle.trace_pieces.specs.Pieces.{name_at, number_in, numbers_among}

pub cut-shorter : (mark : ℕ) (text front after : List ℕ) → cut mark text ≡ Some (front, after)
    → length after < length text
cut-shorter mark text front after is =
    rw (cut-parts mark text front after is).0 (rw (length-append front (mark ∷ after)) (omega arith))

has_byte-within : (byte : ℕ) (front after : List ℕ) → has_byte byte (front ++ byte ∷ after) ≡ true
has_byte-within byte [] after = grind arith
has_byte-within byte (b ∷ front) after = grind (arith, has_byte-within byte front after)

-- the part of a path before a `/` does not belong to the file name
name_at-after : (front path : List ℕ) → name_at (front ++ 47 ∷ path) ≡ name_at path
name_at-after [] path = refl
name_at-after (b ∷ front) path = grind (arith, name_at-after front path, has_byte-within 47 front path)

pub name_at-cut : (path front after : List ℕ) → cut 47 path ≡ Some (front, after) → name_at path ≡ name_at after
name_at-cut path front after is =
    ap name_at (cut-parts 47 path front after is).0 ∙ name_at-after front after

name_at-lacks : (path : List ℕ) → has_byte 47 path ≡ false → name_at path ≡ path
name_at-lacks [] lacks = refl
name_at-lacks (b ∷ path) lacks = grind arith

pub name_at-whole : (path : List ℕ) → cut 47 path ≡ None → name_at path ≡ path
name_at-whole path is = name_at-lacks path (cut-lacks 47 path is)

-- the numbers among file names are the one in the first name, if any, and those in the others
pub numbers-cut : (trace names name after : List ℕ) (before : List ℕ) → cut 0 names ≡ Some (name, after)
    → (before ++ filter_map (number_in trace) (name ∷ [])) ++ numbers_among trace after
    ≡ before ++ numbers_among trace names
numbers-cut trace names name after before is =
    rw (pieces_of-cut 0 names name after is) (with_first (number_in trace name))
  where
    with_first : (o : Option ℕ) → (before ++ cons_option o []) ++ numbers_among trace after
        ≡ before ++ cons_option o (numbers_among trace after)
    with_first None = rw (append-nil before) refl
    with_first (Some number) = append_assoc before (number ∷ []) (numbers_among trace after)

pub numbers-whole : (trace names : List ℕ) → cut 0 names ≡ None
    → filter_map (number_in trace) (names ∷ []) ≡ numbers_among trace names
numbers-whole trace names is = rw (pieces_of-whole 0 names is) refl
