-- Texts that end within a happening, and texts with a line at which no happening begins.
use Rattle.std.specs.Prelude.{◌≡◌, ℕ, zero, suc, ◌+◌, Bool, true, false, ◌&&◌, nat_lt, nat_le, List, [], ◌∷◌, ◌++◌}
use Rattle.std.specs.Prelude.{length, Option, Some, None}
use Rattle.std.specs.Option.{option_map_or}
use Rattle.text_lines.specs.Lines.{cut, newlines}
use Rattle.trace_events.specs.Event.{Event}
use Rattle.trace_text.specs.Lines.{trace_text}
use Rattle.trace_events.specs.Range.{are_in_range}
use Rattle.trace_text.specs.Texts.{BeginsNone}
use Rattle.trace_text.specs.Reading.{entries_brought, words_in}
use Rattle.trace_text.specs.declared.reading.TheConstants.{LINE_LIMIT}
use Rattle.inittab_text.specs.declared.reading.TheConstants.{TEXT_LIMIT}

-- the number of lines of the happening that begins with this line: one, and one more for each entry of its table
abbrev pub lines_of : List ℕ → ℕ
lines_of line = option_map_or (λ count. count + 1) (entries_brought (words_in line)) 1

-- the number of lines of the first happening of a text, as given by its first line; 1 if that line is incomplete
abbrev pub lines_due : List ℕ → ℕ
lines_due text = option_map_or (λ parts. lines_of parts.0) (cut 10 text) 1

-- the text ends before the last line of its first happening is complete
abbrev pub is_unfinished : List ℕ → Bool
is_unfinished text = nat_lt (newlines text) (lines_due text)

-- the maximum length in bytes of an incomplete happening with this number of newlines: the length of a line if it has
-- none, otherwise the length of a `use` line and its table
abbrev pub size_limit : ℕ → ℕ
size_limit zero = LINE_LIMIT
size_limit (suc lines) = LINE_LIMIT + TEXT_LIMIT

-- the text ends within its first happening, and is no longer than an incomplete happening can be
abbrev pub is_open : List ℕ → Bool
is_open text = is_unfinished text && nat_le (length text) (size_limit (newlines text))

-- the text cannot be the beginning of a happening: it does not end within its first happening, or it is too long to do
-- so; and it does not begin with a happening, whatever text follows
abbrev pub BeginsNever : List ℕ → Type 0
BeginsNever text = (is_open text ≡ false) × ((more : List ℕ) → BeginsNone (text ++ more))

-- the number of the line at which the unread text begins, after the given number of lines; none if no text is unread
abbrev pub line_left : ℕ → List ℕ → Option ℕ
line_left lines [] = None
line_left lines (byte ∷ over) = Some (lines + 1)

-- the text is the text of the trace, followed by an incomplete happening that begins at `open_line`; if `open_line` is
-- none, nothing follows
pub record IsFront (trace : List Event) (open_line : Option ℕ) (text : List ℕ) : Type 0 where
  pub over : List ℕ
  pub are : are_in_range trace ≡ true
  pub whole : trace_text trace ++ over ≡ text
  pub unfinished : is_open over ≡ true
  pub at : open_line ≡ line_left (newlines (trace_text trace)) over

-- the text is a trace up to the line with this number, counted from 1, and no happening begins at that line, whatever
-- text follows
pub record IsTorn (text : List ℕ) (number : ℕ) : Type 0 where
  pub trace : List Event
  pub rest : List ℕ
  pub behind : List ℕ
  pub are : are_in_range trace ≡ true
  pub whole : trace_text trace ++ rest ++ behind ≡ text
  pub counted : number ≡ newlines (trace_text trace) + 1
  pub none : BeginsNever rest
