-- The names of the pieces of a trace.
use Rattle.std.specs.Prelude.{◌≡◌, ℕ, ◌==◌, ◌||◌, ◌^◌, max, if◌then◌else◌, List, [], ◌∷◌, ◌++◌, length, take, drop}
use Rattle.std.specs.Prelude.{codes, decimal, fold, filter_map, Option, Some, None, option_and_then, IfSome}
use Rattle.std.specs.Str.{bytes_eq}
use Rattle.program_io.specs.Known.{KnownTexts}
use Rattle.text_lines.specs.Lines.{has_byte, pieces_of}
use Rattle.text_lines.specs.Numbers.{number_read}

-- the path of a piece
abbrev pub piece_path : List ℕ → ℕ → List ℕ
piece_path trace number = trace ++ (codes "." ++ decimal number)

-- the path of the list of pieces
abbrev pub list_path : List ℕ → List ℕ
list_path trace = trace ++ codes ".0.pieces"

-- the file name in a path: the text after its last `/`
abbrev pub name_at : List ℕ → List ℕ
name_at [] = []
name_at (b ∷ path) = if b == 47 || has_byte 47 path then name_at path else b ∷ path

-- the text after a prefix; none if the text does not begin with it
abbrev pub behind_front : List ℕ → List ℕ → Option (List ℕ)
behind_front front text = if bytes_eq (take (length front) text) front then Some (drop (length front) text) else None

-- the number in the file name of a piece, given the file name of the trace; none for any other file name
abbrev pub number_in : List ℕ → List ℕ → Option ℕ
number_in trace name =
    option_and_then (number_read (2 ^ 64))
    (option_and_then (behind_front (codes ".")) (behind_front trace name))

-- the numbers of a trace's pieces among file names separated by NUL bytes
abbrev pub numbers_among : List ℕ → List ℕ → List ℕ
numbers_among trace names = filter_map (number_in trace) (pieces_of 0 names)

-- if the file names in the trace's folder are known, these are the numbers of the trace's pieces among them
abbrev pub AreNumbers : KnownTexts → List ℕ → List ℕ → Type 0
AreNumbers names_beside trace numbers =
    IfSome (names_beside trace) (λ names. numbers ≡ numbers_among (name_at trace) names)

-- if the file names in the trace's folder are known, this is the greatest number of a piece of the trace, or 0 if there
-- is no piece
abbrev pub IsNewest : KnownTexts → List ℕ → ℕ → Type 0
IsNewest names_beside trace newest =
    IfSome (names_beside trace) (λ names. newest ≡ fold max 0 (numbers_among (name_at trace) names))
