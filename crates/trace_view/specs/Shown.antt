-- The trace that a view shows of a text: the whole trace, or the part before the first happening that breaks a law or
-- the first line at which no happening begins. A view shows nothing of a text that begins in the middle of a run.
use Rattle.std.specs.Prelude.{◌≡◌, ℕ, ◌+◌, Bool, true, false, List, [], ◌∷◌, ◌++◌, reverse, Option, Some, None}
use Rattle.trace_view.specs.Words.{newlines, Event, broken, are_in_range, Law, law_number, event_text, trace_text}
use Rattle.trace_view.specs.Words.{IsFront, IsTorn}
use Rattle.trace_view.specs.LastLines.{is_table}
use Rattle.trace_view.specs.declared.text_views.ViewEnd.{ViewEnd}
use Rattle.trace_view.specs.declared.text_views.ViewEnd.TheVariants.{Breach, Torn, Within}

-- in the text, the trace is followed by a happening that breaks this law and no lower-numbered one; the happening
-- begins at the line with this number, counted from 1
pub record IsBefore (trace : List Event) (law : Law) (line : ℕ) (text : List ℕ) : Type 0 where
  pub happening : Event
  pub rest : List ℕ
  pub are : are_in_range trace ≡ true
  pub whole : trace_text (trace ++ happening ∷ []) ++ rest ≡ text
  pub broke : broken happening (reverse trace) ≡ Some (law_number law)
  pub at : line ≡ newlines (trace_text trace) + 1

-- the text is the trace up to the line with this number, counted from 1, at which no happening begins
abbrev pub IsUpTo : List Event → ℕ → List ℕ → Type 0
IsUpTo trace number text = (torn : IsTorn text number) × (torn.trace ≡ trace)

-- the text begins in the middle of a run: its first happening is not a table
pub record BeginsWithin (text : List ℕ) : Type 0 where
  pub happening : Event
  pub rest : List ℕ
  pub whole : event_text happening ++ rest ≡ text
  pub other : is_table happening ≡ false

-- the trace is empty or begins with a table
abbrev pub begins_run : List Event → Bool
begins_run [] = true
begins_run (happening ∷ trace) = is_table happening

-- this is a reason why a view of the text ends after this trace
abbrev pub StopsAt : ViewEnd → List Event → List ℕ → Type 0
StopsAt (Breach law line) trace text = IsBefore trace law line text
StopsAt (Torn number) trace text = IsUpTo trace number text
StopsAt Within trace text = (trace ≡ []) × BeginsWithin text

-- the trace is the whole text except for an incomplete last happening, or it is the text up to the place where the view
-- ended
abbrev pub ShownBy : Option ViewEnd → Option ℕ → List Event → List ℕ → Type 0
ShownBy None open_line trace text = IsFront trace open_line text
ShownBy (Some stop) open_line trace text = StopsAt stop trace text × (open_line ≡ None)

-- a view shows this trace of the text, given the reason why the view ended, if it did, and the line at which an
-- incomplete happening begins, if there is one; the trace is empty or begins with a table
abbrev pub IsShown : List ℕ → Option ViewEnd → Option ℕ → List Event → Type 0
IsShown text stop open_line trace = (begins_run trace ≡ true) × ShownBy stop open_line trace text
