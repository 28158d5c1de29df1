-- The lines for a text that begins in the middle of a run. The message about each happening does not depend on the
-- past, and its time is that of the last clock reading in the text. No law is checked.
use Rattle.std.specs.Prelude.{◌≡◌, ℕ, Bool, true, false, List, [], ◌∷◌, ◌++◌, reverse, Option, Some, None}
use Rattle.text_lines.specs.Lines.{newlines}
use Rattle.initview_lines.specs.CommonWords.{Event, time_of, Reading, ViewEnd, ShownBy, StopsAt}
use Rattle.trace_events.specs.Range.{are_in_range}
use Rattle.trace_text.specs.Lines.{trace_text}
use Rattle.trace_verdict.specs.Fronts.{is_open}
use Rattle.initview_lines.specs.declared.lines.Line.{Line}
use Rattle.initview_lines.specs.Happenings.{line_at, news_of}

-- the lines for the happenings, oldest first
abbrev pub part_in : List Event → List Line
part_in [] = []
part_in (happening ∷ past) = part_in past ++ line_at (time_of (happening ∷ past)) (news_of happening [])

-- these are the lines for all happenings of the text, up to the place where the view ended
abbrev pub IsToldOf : List ℕ → Option ViewEnd → Option ℕ → List Line → Type 0
IsToldOf text stop open_line past_lines =
    (trace : List Event) × ShownBy stop open_line trace text × (past_lines ≡ part_in (reverse trace))

-- a view of a text that arrives in pieces: the unread part and the number of lines read, the time, and the reason why
-- the view ended, if it did
pub record PartState : Type 0 where
  pub reading : Reading
  pub time : ℕ
  pub stop : Option ViewEnd

-- the view has read this trace from the text
pub record IsReadOf (reading : Reading) (trace : List Event) (text : List ℕ) : Type 0 where
  pub are : are_in_range trace ≡ true
  pub whole : trace_text trace ++ reading.over ≡ text
  pub lines : reading.lines ≡ newlines (trace_text trace)

-- the view has read this trace from the text so far, or up to the place where it ended
abbrev pub ReadBy : Option ViewEnd → Reading → List Event → List ℕ → Type 0
ReadBy None reading trace text = IsReadOf reading trace text
ReadBy (Some stop) reading trace text = StopsAt stop trace text

-- `ReadBy` holds, and unless the view has ended, the unread part ends within a happening
abbrev pub TakenBy : Option ViewEnd → Reading → List Event → List ℕ → Type 0
TakenBy None reading trace text = IsReadOf reading trace text × (is_open reading.over ≡ true)
TakenBy (Some stop) reading trace text = StopsAt stop trace text

-- the view is reading the text, and these are the lines for the trace that it has read
abbrev pub IsTelling : PartState → List Line → List ℕ → Type 0
IsTelling state past_lines text =
    (trace : List Event) × ReadBy state.stop state.reading trace text × (state.time ≡ time_of (reverse trace))
    × (past_lines ≡ part_in (reverse trace))

-- the view has taken the text, and these are the lines for the trace that it has read
abbrev pub HasTold : PartState → List Line → List ℕ → Type 0
HasTold state past_lines text =
    (trace : List Event) × TakenBy state.stop state.reading trace text × (state.time ≡ time_of (reverse trace))
    × (past_lines ≡ part_in (reverse trace))

-- the view is still reading the text if the flag is true, and otherwise has taken it
abbrev pub TellsOn : Bool → PartState → List Line → PartState → List Line → List ℕ → Type 0
TellsOn true old before new after text = IsTelling old before text → IsTelling new after text
TellsOn false old before new after text = IsTelling old before text → HasTold new after text
