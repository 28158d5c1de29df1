-- The effect of a write that may stop early.
use Rattle.std.specs.Prelude.{◌≡◌, ◌<◌, ℕ, List, length, ◌++◌, Option}
use Rattle.std.specs.Io.KnownBytes.{Appends}

-- a prefix of the text, possibly all of it, was appended to the known bytes
abbrev pub AppendsPrefix : Option (List ℕ) → Option (List ℕ) → List ℕ → Type 0
AppendsPrefix old new text =
    (front : List ℕ) × (rest : List ℕ) × (front ++ rest ≡ text) × Appends old new front

-- a proper prefix of the text was appended to the known bytes
abbrev pub AppendsFront : Option (List ℕ) → Option (List ℕ) → List ℕ → Type 0
AppendsFront old new text =
    (front : List ℕ) × (rest : List ℕ) × (front ++ rest ≡ text) × Appends old new front × (0 < length rest)
