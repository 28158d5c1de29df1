-- How a text splits into lines, a line into words, and a text into pieces at a separator.
use Rattle.std.specs.Prelude.{ℕ, zero, suc, Bool, true, ◌==◌, ◌||◌, reverse, filter, length, if◌then◌else◌, List, []}
use Rattle.std.specs.Prelude.{◌∷◌, Option, Some, None, option_and_then}
use Rattle.std.specs.List.{list_any, slice_split}
use Rattle.std.specs.Option.{option_map}

-- the byte occurs in the text
abbrev pub has_byte : ℕ → List ℕ → Bool
has_byte byte text = list_any (λ b. b == byte) text

-- prepends a byte to the first component of a pair
abbrev pub onto_first : ℕ → List ℕ × List ℕ → List ℕ × List ℕ
onto_first b parts = (b ∷ parts.0, parts.1)

-- the text before the first occurrence of the byte, and the text after it
abbrev pub cut : ℕ → List ℕ → Option (List ℕ × List ℕ)
cut mark [] = None
cut mark (b ∷ text) = if b == mark then Some ([], text) else option_map (onto_first b) (cut mark text)

-- prepends a byte to the first line, or makes it the only line if there is none
abbrev pub onto_first_line : ℕ → List (List ℕ) → List (List ℕ)
onto_first_line b [] = (b ∷ []) ∷ []
onto_first_line b (line ∷ lines) = (b ∷ line) ∷ lines

-- the lines of a text: each ends at a newline; a last line without a newline counts if it is not empty
abbrev pub lines_of : List ℕ → List (List ℕ)
lines_of [] = []
lines_of (b ∷ text) = if b == 10 then [] ∷ lines_of text else onto_first_line b (lines_of text)

-- the text with a newline appended if it is not empty and does not end with one
abbrev pub ended : List ℕ → List ℕ
ended [] = []
ended (b ∷ []) = if b == 10 then b ∷ [] else b ∷ 10 ∷ []
ended (b ∷ c ∷ text) = b ∷ ended (c ∷ text)

-- the number of newlines in a text
abbrev pub newlines : List ℕ → ℕ
newlines text = length (filter (λ b. b == 10) text)

-- the text after the given number of newline-terminated lines; none if there are fewer
abbrev pub after_lines : ℕ → List ℕ → Option (List ℕ)
after_lines zero text = Some text
after_lines (suc n) text = option_and_then (λ parts. after_lines n parts.1) (cut 10 text)

-- the pieces into which each occurrence of the byte splits the text
abbrev pub pieces_of : ℕ → List ℕ → List (List ℕ)
pieces_of mark text = slice_split (λ b. b == mark) text

-- a blank or a tab
abbrev pub is_blank : ℕ → Bool
is_blank b = b == 32 || b == 9

-- a text without its leading blanks and tabs
abbrev pub skip_blanks : List ℕ → List ℕ
skip_blanks [] = []
skip_blanks (b ∷ text) = if is_blank b then skip_blanks text else b ∷ text

-- a text without its trailing blanks and tabs
unfoldable pub trim_end : List ℕ → List ℕ
trim_end text = reverse (skip_blanks (reverse text))

-- a text without its leading and trailing blanks and tabs
abbrev pub trim : List ℕ → List ℕ
trim text = trim_end (skip_blanks text)

-- the number of bytes before the first blank or tab
abbrev pub word_length : List ℕ → ℕ
word_length [] = 0
word_length (b ∷ text) = if is_blank b then 0 else suc (word_length text)

-- the text cannot continue a word: it is empty or begins with a blank or a tab
abbrev pub ends_word : List ℕ → Bool
ends_word [] = true
ends_word (b ∷ text) = is_blank b

-- the words of a line, separated by blanks and tabs
abbrev pub words_of : List ℕ → List (List ℕ)
words_of [] = []
words_of (b ∷ text) =
    if is_blank b then words_of text
    else if ends_word text then (b ∷ []) ∷ words_of text
    else onto_first_line b (words_of text)
