-- The known word that a misspelt word was probably meant to be.
use Rattle.std.specs.Prelude.{ℕ, Bool, true, false, ◌&&◌, ◌||◌, if◌then◌else◌, List, [], ◌∷◌, find, Option}
use Rattle.std.specs.Borrow.{Bor}
use Rattle.std.specs.Char.{eq_ignore_ascii_case}
use Rattle.clap.specs.Words.{Text}

-- the words are equal, ignoring ASCII case
abbrev pub same_but_case : List ℕ → List ℕ → Bool
same_but_case [] [] = true
same_but_case [] (b ∷ meant) = false
same_but_case (a ∷ word) [] = false
same_but_case (a ∷ word) (b ∷ meant) = eq_ignore_ascii_case a b && same_but_case word meant

-- the first two letters are swapped, and the rest is equal, ignoring ASCII case
abbrev pub is_swapped : List ℕ → List ℕ → Bool
is_swapped (a ∷ b ∷ word) (c ∷ d ∷ meant) =
    eq_ignore_ascii_case a d && (eq_ignore_ascii_case b c && same_but_case word meant)
is_swapped _ _ = false

-- the first letter is replaced, added, missing, or swapped with the next, and the rest is equal, ignoring ASCII case;
-- or both words are empty
abbrev pub is_slip_here : List ℕ → List ℕ → Bool
is_slip_here [] [] = true
is_slip_here [] (b ∷ []) = true
is_slip_here (a ∷ []) [] = true
is_slip_here (a ∷ word) (b ∷ meant) =
    same_but_case word meant
    || (same_but_case word (b ∷ meant) || (same_but_case (a ∷ word) meant || is_swapped (a ∷ word) (b ∷ meant)))
is_slip_here _ _ = false

-- after their common prefix, the words are equal, or one letter is replaced, added, missing, or swapped with the next
abbrev pub is_slip : List ℕ → List ℕ → Bool
is_slip (a ∷ word) (b ∷ meant) =
    if eq_ignore_ascii_case a b then is_slip word meant else is_slip_here (a ∷ word) (b ∷ meant)
is_slip word meant = is_slip_here word meant

-- the first known word that differs from this one by at most one slip
abbrev pub meant_of : List (Bor Text) → Text → Option (Bor Text)
meant_of known word = find (λ meant. is_slip word meant.now) known
