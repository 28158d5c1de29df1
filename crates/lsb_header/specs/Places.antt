-- The positions of the lines that have a keyword.
use Rattle.std.specs.Prelude.{ℕ, ◌+◌, if◌then◌else◌, List, [], ◌∷◌, Option, Some, None, is_some}
use Rattle.std.specs.Option.{option_map, option_and_then}
use Rattle.text_lines.specs.Lines.{lines_of}
use Rattle.lsb_header.specs.declared.keywords.Keyword.{Keyword}
use Rattle.lsb_header.specs.Blocks.{find_header, block_of}
use Rattle.lsb_header.specs.Forms.{args_in}

-- the number of the first line with this keyword, and the lines after it; the first line of the list has the given
-- number
abbrev pub next_line : Keyword → ℕ → List (List ℕ) → Option (ℕ × List (List ℕ))
next_line keyword number [] = None
next_line keyword number (line ∷ lines) =
    if is_some (args_in keyword line) then Some (number, lines) else next_line keyword (number + 1) lines

-- the number of the second line with this keyword in the header of a text, whose lines are counted from 1
unfoldable pub second_keyword_line : List ℕ → Keyword → Option ℕ
second_keyword_line text keyword =
    option_and_then (λ header. option_and_then (λ first. option_map (λ second. second.0)
    (next_line keyword (first.0 + 1) first.1)) (next_line keyword (header.0 + 1) (block_of header.1)))
    (find_header 1 (lines_of text))
