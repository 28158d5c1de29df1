-- The lines of a header, their checks and their values (LSB Core 5.0).
use Rattle.std.specs.Prelude.{ℕ, ◌+◌, Bool, not, if◌then◌else◌, List, [], ◌∷◌, ◌++◌, drop, Option, Some, None, codes}
use Rattle.std.specs.List.{list_any, filter_map}
use Rattle.std.specs.Option.{option_or}
use Rattle.std.specs.Str.{bytes_eq}
use Rattle.init_words.specs.declared.levels.Level.{Level}
use Rattle.init_words.specs.Levels.{level_read}
use Rattle.lsb_header.specs.declared.faults.HeaderFault.{HeaderFault}
use Rattle.lsb_header.specs.declared.faults.HeaderFault.TheVariants as fault
use Rattle.lsb_header.specs.declared.keywords.Keyword.{Keyword}
use Rattle.lsb_header.specs.declared.keywords.Keyword.TheVariants as keyword
use Rattle.lsb_header.specs.Forms.{args_in, is_empty_comment, is_indented, is_line, known_of}
use Rattle.lsb_header.specs.Keywords.{same_keyword}
use Rattle.text_lines.specs.Lines.{lines_of, trim, trim_end}

-- the line begins the header; blanks and tabs at its end are ignored
unfoldable pub is_begin : List ℕ → Bool
is_begin line = bytes_eq (trim_end line) (codes "### BEGIN INIT INFO")

-- the line ends the header; blanks and tabs at its end are ignored
unfoldable pub is_end : List ℕ → Bool
is_end line = bytes_eq (trim_end line) (codes "### END INIT INFO")

-- the number of the first line that begins a header, and the lines after it; the first line of the list has the given
-- number
abbrev pub find_header : ℕ → List (List ℕ) → Option (ℕ × List (List ℕ))
find_header number [] = None
find_header number (line ∷ lines) = if is_begin line then Some (number, lines) else find_header (number + 1) lines

-- the lines before the first one that ends the header
abbrev pub block_of : List (List ℕ) → List (List ℕ)
block_of [] = []
block_of (line ∷ lines) = if is_end line then [] else line ∷ block_of lines

-- the lines of the header in the text after the line that begins it
abbrev pub block_in : List ℕ → List (List ℕ)
block_in body = block_of (lines_of body)

-- the fault that the line's keyword is repeated; none if the keyword was not seen before, or if the line has none
abbrev pub twice_fault : List Keyword → Option (Keyword × List ℕ) → Option HeaderFault
twice_fault seen None = None
twice_fault seen (Some known) = if list_any (same_keyword known.0) seen then Some (fault.Twice known.0) else None

-- the fault of the line with this number, if it follows lines with these keywords
abbrev pub line_fault : List Keyword → ℕ → List ℕ → Option HeaderFault
line_fault seen number line =
    if not (is_line line) then Some (fault.BadLine number) else twice_fault seen (known_of line)

-- the keywords, followed by the keyword of a line if it has one
abbrev pub with_known : List Keyword → Option (Keyword × List ℕ) → List Keyword
with_known seen None = seen
with_known seen (Some known) = seen ++ known.0 ∷ []

-- the keywords after this line
abbrev pub seen_after : List Keyword → List ℕ → List Keyword
seen_after seen line = with_known seen (known_of line)

-- the first fault in the lines, the first of which has this number, if they follow lines with these keywords
abbrev pub block_fault : List Keyword → ℕ → List (List ℕ) → Option HeaderFault
block_fault seen number [] = None
block_fault seen number (line ∷ lines) =
    option_or (line_fault seen number line) (block_fault (seen_after seen line) (number + 1) lines)

-- the text after the colon of the first line with this keyword
abbrev pub args_of : Keyword → List (List ℕ) → Option (List ℕ)
args_of keyword [] = None
args_of keyword (line ∷ lines) = option_or (args_in keyword line) (args_of keyword lines)

-- the runlevel that a word names, if it is a single character that names a runlevel
abbrev pub level_in : List ℕ → Option Level
level_in [] = None
level_in (code ∷ []) = level_read code
level_in (code ∷ other ∷ word) = None

-- the runlevels among the words
abbrev pub levels_of : List (List ℕ) → List Level
levels_of words = filter_map level_in words

-- the text that the lines after a description add to it: indented comments, each with a blank before it; empty comments
-- are skipped, and any other line ends it
abbrev pub continued : List (List ℕ) → List ℕ
continued [] = []
continued (line ∷ lines) =
    if is_empty_comment line then continued lines
    else if is_indented line then 32 ∷ (trim (drop 1 line) ++ continued lines)
    else []

-- the description that begins in this line, or else the description in the later lines
abbrev pub described : Option (List ℕ) → List ℕ → List ℕ → List ℕ
described None more later = later
described (Some text) more later = trim text ++ more

-- the description in the first Description line, with the lines that continue it; empty if there is none
abbrev pub description_of : List (List ℕ) → List ℕ
description_of [] = []
description_of (line ∷ lines) = described (args_in keyword.Description line) (continued lines) (description_of lines)
