-- The names that a link can have after its digits.
use Rattle.std.specs.Prelude.{ℕ, Bool, false, ◌==◌, ◌||◌, List, [], ◌∷◌}
use Rattle.std.specs.Str.{byte}
use Rattle.std.specs.List.{list_all}
use Rattle.std.specs.Char.{is_ascii_alphanumeric}

-- a letter, a digit, '.', '_' or '-'
abbrev pub is_name_byte : ℕ → Bool
is_name_byte b = is_ascii_alphanumeric b || b == byte "." || b == byte "_" || b == byte "-"

-- the name is not empty, and each of its bytes is a letter, a digit, '.', '_' or '-'
abbrev pub is_name : List ℕ → Bool
is_name [] = false
is_name (b ∷ name) = list_all is_name_byte (b ∷ name)
