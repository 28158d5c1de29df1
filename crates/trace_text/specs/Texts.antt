-- Results of reading the text of a trace: the happening at its start, and where a text stops being a trace.
use Rattle.std.specs.Prelude.{◌≡◌, ◌≢◌, ℕ, true, ◌+◌, List, [], ◌++◌, length}
use Rattle.text_lines.specs.Lines.{newlines}
use Rattle.trace_events.specs.declared.happenings.Happening.TheVariants.{NewTable}
use Rattle.trace_events.specs.Event.{Event}
use Rattle.trace_events.specs.Range.{is_in_range, are_in_range}
use Rattle.trace_text.specs.Lines.{event_text, trace_text}
use Rattle.trace_text.specs.declared.reading.ReadFault.{ReadFault}
use Rattle.trace_text.specs.declared.reading.ReadFault.TheVariants as fault

-- a happening and the text after it
abbrev pub Begun : Type 0
Begun = Event × List ℕ

-- the number of lines that a happening has in a trace: one, and one more for each entry of a new table
abbrev pub line_count : Event → ℕ
line_count (NewTable table) = length table + 1
line_count _ = 1

-- the text does not begin with the text of a happening
abbrev pub BeginsNone : List ℕ → Type 0
BeginsNone text =
    (happening : Event) (more : List ℕ) → is_in_range happening ≡ true → event_text happening ++ more ≢ text

-- the text is a trace up to the line with this number, counted from 1, and no happening begins at that line
pub record Stops (text : List ℕ) (number : ℕ) : Type 0 where
  pub trace : List Event
  pub rest : List ℕ
  pub are : are_in_range trace ≡ true
  pub whole : trace_text trace ++ rest ≡ text
  pub counted : number ≡ newlines (trace_text trace) + 1
  pub some : rest ≢ []
  pub none : BeginsNone rest

-- why the text could not be read: no happening begins at this line, or memory allocation failed, which implies nothing
-- about the text
abbrev pub UnreadTrace : List ℕ → ReadFault → Type 0
UnreadTrace text (fault.Line number) = Stops text number
UnreadTrace text fault.Memory = Unit {0}
