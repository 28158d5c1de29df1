-- The output for a query about a trace, and the exit status.
use Rattle.std.specs.Prelude.{◌≡◌, ◌⊎◌, ℕ, Bool, true, false, if◌then◌else◌, List, [], ◌∷◌, reverse, Option, Some, None}
use Rattle.std.specs.Prelude.{is_some, Result, Ok, Err, Vec}
use Rattle.initview_command.specs.Words.{DONE, REFUSED, UNLAWFUL, DEVICE_FAULT, IsTextAt, KnownTexts, Event, ViewEnd}
use Rattle.initview_command.specs.Words.{KnownOutput, WritesLines, WritesLinePrefix, WritesNothing}
use Rattle.trace_events.specs.Lawful.{first_breach}
use Rattle.trace_view.specs.declared.rows.Row.{Row}
use Rattle.trace_view.specs.Rows.{row_of}
use Rattle.trace_view.specs.declared.text_views.ViewEnd.TheVariants.{Breach, Torn, Within}
use Rattle.trace_view.specs.Shown.{IsShown}
use Rattle.initview_lines.specs.declared.lines.Line.{Line}
use Rattle.initview_lines.specs.Left.{left_in}
use Rattle.initview_lines.specs.Rows.{row_at, status_in}
use Rattle.initview_command.specs.declared.asking.TraceQuery.{TraceQuery}
use Rattle.initview_command.specs.declared.asking.TraceQuery.TheVariants as question
use Rattle.initview_command.specs.declared.growing.Writer.{Writer}
use Rattle.initview_command.specs.declared.growing.Writer.TheVariants.{Nobody}
use Rattle.initview_command.specs.declared.telling.Refusal.{Refusal}
use Rattle.initview_command.specs.Refusals.{refusal_status}
use Rattle.initview_command.specs.Writers.{IsWriterAt, KnownWriters, present}

-- the lines that answer a question about a trace with this past
abbrev pub answer_lines : TraceQuery → List Event → List Line
answer_lines (question.Status shape) past = status_in shape past
answer_lines (question.Row id shape) past = row_at shape past id ∷ []
answer_lines (question.Left shape) past = left_in shape past

-- the exit status that the LSB defines for the action `status` and a running child: 0, or 4 (unknown) if no init writes
-- the trace
abbrev pub running_status : Writer → ℕ
running_status Nobody = 4
running_status writer = 0

-- the exit status that the LSB defines for the action `status`: `running_status` if there is a child; 3 if there is
-- none; 4 if the table has no entry for the id either
abbrev pub lsb_status : Writer → Row → ℕ
lsb_status writer row = if is_some row.child then running_status writer else if is_some row.act then 3 else 4

-- the exit status for a trace that was read to its end, up to a breach, up to a line that is not a line of a trace, or
-- not at all
abbrev pub stop_status : Option ViewEnd → ℕ
stop_status None = DONE
stop_status (Some (Breach law line)) = UNLAWFUL
stop_status (Some (Torn number)) = REFUSED
stop_status (Some Within) = REFUSED

-- the exit status for a single id: 4 (unknown) if the trace was not read to its end
abbrev pub row_status : List ℕ → Writer → Option ViewEnd → List Event → ℕ
row_status id writer None past = lsb_status writer (row_of id past)
row_status id writer (Some stop) past = DEVICE_FAULT

-- the exit status for a question
abbrev pub status_by : TraceQuery → Writer → Option ViewEnd → List Event → ℕ
status_by (question.Row id shape) writer stop past = row_status id writer stop past
status_by _ writer stop past = stop_status stop

-- the lines and the exit status for a trace in its current state
abbrev pub answer_by : TraceQuery → Writer → Option ViewEnd → List Event → List Line × ℕ
answer_by question writer stop past =
    (answer_lines question (present writer stop past), status_by question writer stop (present writer stop past))

-- not all lines were written: the output failed or memory ran out, with status 4; or the reader of the output is gone,
-- with status 0
abbrev pub EndsUnwritten : ℕ → KnownOutput → Type 0
EndsUnwritten status now = (status ≡ DEVICE_FAULT) ⊎ ((status ≡ DONE) × (now.unread ≡ true))

-- all lines were written, and the exit status is `ends`; or a prefix of them was written
abbrev pub Writes : List Line → ℕ → ℕ → KnownOutput → KnownOutput → Type 0
Writes lines ends status old new =
    ((status ≡ ends) × WritesLines old new lines) ⊎ (EndsUnwritten status new × WritesLinePrefix old new lines)

-- lines with an exit status; or an exit status only, if there is no answer
abbrev pub Answer : Type 0
Answer = Result (List Line × ℕ) ℕ

-- the answer that the program returns, as lists
abbrev pub answer_value : {A : Type 0} → Result (Vec Line A × ℕ) Refusal → Answer
answer_value (Ok given) = Ok (given.0.items, given.1)
answer_value (Err refusal) = Err (refusal_status refusal)

-- the answer was written; or nothing was written, because there is no answer
abbrev pub WritesAnswer : Answer → ℕ → KnownOutput → KnownOutput → Type 0
WritesAnswer (Ok given) status old new = Writes given.0 given.1 status old new
WritesAnswer (Err ends) status old new = (status ≡ ends) × WritesNothing old new

-- some answer with this property was written
abbrev pub WritesOne : (Answer → Type 0) → ℕ → KnownOutput → KnownOutput → Type 0
WritesOne IsAnswer status old new = (answer : Answer) × IsAnswer answer × WritesAnswer answer status old new

-- the view ended because the text begins in the middle of a run
abbrev pub is_within : Option ViewEnd → Bool
is_within (Some Within) = true
is_within _ = false

-- the answer, unless the text begins in the middle of a run
abbrev pub unless_within : Bool → List Line × ℕ → Answer
unless_within true given = Err REFUSED
unless_within false given = Ok given

-- a query: how the lines and the exit status depend on the writer of the trace, the reason why the view ended, and the
-- past
abbrev pub Gives : Type 0
Gives = Writer → Option ViewEnd → List Event → List Line × ℕ

-- the answer to a query about the text at the path: the view shows a trace of it that breaks no law, and the writer is
-- determined from the lock; or the text could not be read, or memory ran out
abbrev pub Shows : KnownTexts → KnownWriters → List ℕ → Gives → Answer → Type 0
Shows text_at writers path gives answer =
    ((text : List ℕ) × (writer : Writer) × (stop : Option ViewEnd) × (unfinished : Option ℕ) × (trace : List Event)
    × IsTextAt text_at path text × IsWriterAt writers path writer
    × IsShown text stop unfinished trace × (first_breach (reverse trace) ≡ None)
    × (answer ≡ unless_within (is_within stop) (gives writer stop (reverse trace))))
    ⊎ (answer ≡ Err DEVICE_FAULT)
