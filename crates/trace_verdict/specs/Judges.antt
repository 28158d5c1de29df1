-- The judge of a text that arrives in pieces, and the text that the judge has taken.
use Rattle.std.specs.Prelude.{◌≡◌, ◌⊎◌, ◌<◌, ◌^◌, ℕ, Bool, true, false, List, ◌++◌, length, reverse, Option, None}
use Rattle.text_lines.specs.Lines.{newlines}
use Rattle.trace_events.specs.Event.{Event}
use Rattle.trace_text.specs.Lines.{trace_text}
use Rattle.trace_events.specs.Range.{are_in_range}
use Rattle.trace_check.specs.Judging.{Judging, Judged}
use Rattle.trace_verdict.specs.declared.findings.Finding.{Finding}
use Rattle.trace_verdict.specs.declared.findings.Finding.TheVariants.{Lawful, Breach, Torn}
use Rattle.trace_verdict.specs.Fronts.{is_open, IsTorn}
use Rattle.trace_verdict.specs.Answers.{Named, IsFirst}
use Rattle.trace_verdict.specs.Readers.{Reading}

-- the unread part and the number of lines read; the judge of the trace; the number of happenings read; and the verdict
-- so far
pub record TextState : Type 0 where
  pub reading : Reading
  pub judging : Judging
  pub position : ℕ
  pub finding : Finding Named

-- the verdict is right for the trace so far
abbrev pub IsFound : Finding Named → Judging → List Event → Type 0
IsFound Lawful judging trace = Judged judging (reverse trace)
IsFound (Breach breach) judging trace = IsFirst trace breach
IsFound (Torn number) judging trace = ⊥

-- the judge has read this trace from the text
pub record HasRead (state : TextState) (trace : List Event) (text : List ℕ) : Type 0 where
  pub are : are_in_range trace ≡ true
  pub whole : trace_text trace ++ state.reading.over ≡ text
  pub lines : state.reading.lines ≡ newlines (trace_text trace)
  pub position : state.position ≡ length trace
  pub found : IsFound state.finding state.judging trace

-- the judge with this verdict is reading the text: either the text is torn at a line, or the judge has read a trace at
-- its beginning
abbrev pub AtBy : Finding Named → TextState → List ℕ → Type 0
AtBy (Torn number) state text = IsTorn text number
AtBy _ state text = (trace : List Event) × HasRead state trace text

-- the judge is reading the text
abbrev pub IsAt : TextState → List ℕ → Type 0
IsAt state text = AtBy state.finding state text

-- the judge with this verdict has taken the text: it is reading the text, and the unread part ends within a happening
abbrev pub TakenBy : Finding Named → TextState → List ℕ → Type 0
TakenBy (Torn number) state text = IsTorn text number
TakenBy _ state text =
    (trace : List Event) × HasRead state trace text × (is_open state.reading.over ≡ true)

-- the judge has taken the text
abbrev pub HasTaken : TextState → List ℕ → Type 0
HasTaken state text = TakenBy state.finding state text

-- the judge is still reading the text if the flag is true, and otherwise has taken it
abbrev pub JudgeGoesOn : Bool → TextState → TextState → List ℕ → Type 0
JudgeGoesOn true old new text = IsAt old text → IsAt new text
JudgeGoesOn false old new text = IsAt old text → HasTaken new text

-- after a failed allocation, either the judge is unchanged, or it has taken the whole piece and is reading the text
-- with the piece appended
abbrev pub Holds : TextState → TextState → List ℕ → Type 0
Holds old new piece =
    (new ≡ old) ⊎ ((text : List ℕ) → length (text ++ piece) < 2 ^ 64 → IsAt old text → IsAt new (text ++ piece))

-- the line at which an incomplete happening begins; none if the text is torn
abbrev pub left_of : Finding Named → Option ℕ → Option ℕ
left_of (Torn number) open_line = None
left_of _ open_line = open_line
