-- The header of a text, or the first check that fails (LSB Core 5.0).
use Rattle.std.specs.Prelude.{ℕ, ◌+◌, not, if◌then◌else◌, List, [], Option, Some, None, Result, Ok, Err, unwrap_or}
use Rattle.std.specs.List.{list_any}
use Rattle.lsb_header.specs.declared.faults.HeaderFault.{HeaderFault}
use Rattle.lsb_header.specs.declared.faults.HeaderFault.TheVariants as fault
use Rattle.lsb_header.specs.declared.keywords.Keyword.{Keyword}
use Rattle.lsb_header.specs.declared.keywords.Keyword.TheVariants as keyword
use Rattle.lsb_header.specs.HeaderText.{HeaderText}
use Rattle.lsb_header.specs.Forms.{is_empty}
use Rattle.text_lines.specs.Lines.{lines_of, trim, words_of}
use Rattle.lsb_header.specs.Blocks.{args_of, find_header, block_fault, block_of, description_of, is_end, levels_of}

-- the text after the colon on the line with the keyword; empty if there is no such line
abbrev pub text_at : Keyword → List (List ℕ) → List ℕ
text_at keyword block = unwrap_or (args_of keyword block) []

-- the fault of a text, given its header's first line, if any, and the lines after it: no line begins a header, or no
-- later line ends it
abbrev pub frame_of : Option (ℕ × List (List ℕ)) → Option HeaderFault
frame_of None = Some fault.NoBegin
frame_of (Some (number, lines)) = if list_any is_end lines then None else Some fault.NoEnd

-- the fault of a text in which the line that begins the header, or the line that ends it, is missing; none otherwise
unfoldable pub frame_fault : List ℕ → Option HeaderFault
frame_fault text = frame_of (find_header 1 (lines_of text))

-- the fields in the lines of a header
abbrev pub header_of : List (List ℕ) → HeaderText
header_of block = record {
  provides = words_of (text_at keyword.Provides block);
  required_start = words_of (text_at keyword.RequiredStart block);
  required_stop = words_of (text_at keyword.RequiredStop block);
  should_start = words_of (text_at keyword.ShouldStart block);
  should_stop = words_of (text_at keyword.ShouldStop block);
  default_start = levels_of (words_of (text_at keyword.DefaultStart block));
  default_stop = levels_of (words_of (text_at keyword.DefaultStop block));
  short_description = trim (text_at keyword.ShortDescription block);
  description = description_of block;
}

-- the header in these lines, unless one of them has a fault
abbrev pub checked : Option HeaderFault → List (List ℕ) → Result HeaderText HeaderFault
checked (Some found) block = Err found
checked None block = if is_empty (header_of block).provides then Err fault.NoProvides else Ok (header_of block)

-- the header that follows the line with this number
abbrev pub read_behind : Option (ℕ × List (List ℕ)) → Result HeaderText HeaderFault
read_behind None = Err fault.NoBegin
read_behind (Some (number, lines)) =
    if not (list_any is_end lines) then Err fault.NoEnd
    else checked (block_fault [] (number + 1) (block_of lines)) (block_of lines)

-- the header of a text, or the first check that fails; lines are counted from 1
unfoldable pub header_read : List ℕ → Result HeaderText HeaderFault
header_read text = read_behind (find_header 1 (lines_of text))
