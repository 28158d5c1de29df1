-- The forms of a header's lines (LSB Core 5.0).
use Rattle.std.specs.Prelude.{ℕ, Bool, true, false, not, ◌==◌, ◌&&◌, ◌||◌, if◌then◌else◌, List, [], ◌∷◌, Option, Some}
use Rattle.std.specs.Prelude.{None, is_some}
use Rattle.std.specs.List.{list_all, list_any}
use Rattle.std.specs.Option.{option_map, option_and_then}
use Rattle.std.specs.Str.{is_utf8}
use Rattle.lsb_header.specs.declared.keywords.Keyword.{Keyword}
use Rattle.lsb_header.specs.Keywords.{keyword_read, same_keyword}
use Rattle.text_lines.specs.Lines.{cut, is_blank}

-- the list is empty
abbrev pub is_empty : {X : Type 0} → List X → Bool
is_empty [] = true
is_empty (x ∷ xs) = false

-- a '#' followed only by blanks and tabs
abbrev pub is_empty_comment : List ℕ → Bool
is_empty_comment [] = false
is_empty_comment (b ∷ rest) = b == 35 && list_all is_blank rest

-- a tab, or two blanks
abbrev pub is_wide : List ℕ → Bool
is_wide [] = false
is_wide (b ∷ []) = b == 9
is_wide (b ∷ c ∷ rest) = b == 9 || (b == 32 && c == 32)

-- a '#' followed by a tab or two blanks
abbrev pub is_indented : List ℕ → Bool
is_indented [] = false
is_indented (b ∷ rest) = b == 35 && is_wide rest

-- the text after a '#' and one blank
abbrev pub body_of : List ℕ → Option (List ℕ)
body_of [] = None
body_of (a ∷ []) = None
body_of (a ∷ b ∷ rest) = if a == 35 && b == 32 then Some rest else None

-- a text that is not empty and has no blanks or tabs
abbrev pub is_word : List ℕ → Bool
is_word text = not (is_empty text) && not (list_any is_blank text)

-- the word before the first colon of a line "# keyword: args", and the text after the colon
unfoldable pub field_of : List ℕ → Option (List ℕ × List ℕ)
field_of line =
    option_and_then (λ body. option_and_then (λ parts. if is_word parts.0 then Some parts else None) (cut 58 body))
    (body_of line)

-- a line that is allowed in a header
unfoldable pub is_line : List ℕ → Bool
is_line line = is_utf8 line && (is_empty_comment line || is_indented line || is_some (field_of line))

-- the keyword of a line, if it is one of the nine, and the text after its colon
unfoldable pub known_of : List ℕ → Option (Keyword × List ℕ)
known_of line = option_and_then (λ parts. option_map (λ k. (k, parts.1)) (keyword_read parts.0)) (field_of line)

-- the text after the colon of a line with this keyword
unfoldable pub args_in : Keyword → List ℕ → Option (List ℕ)
args_in keyword line =
    option_and_then (λ parts. if same_keyword keyword parts.0 then Some parts.1 else None) (known_of line)
