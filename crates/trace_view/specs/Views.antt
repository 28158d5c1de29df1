-- The state of a view of a text that arrives in pieces, and the text that the view has taken.
use Rattle.std.specs.Prelude.{◌≡◌, ◌==◌, ◌||◌, ℕ, Bool, true, false, not, List, [], ◌∷◌, ◌++◌, reverse, Option, Some}
use Rattle.std.specs.Prelude.{None}
use Rattle.trace_view.specs.Words.{newlines, Event, broken, are_in_range, law_number, trace_text, is_open, Reading}
use Rattle.trace_view.specs.Viewing.{ViewState, Viewed}
use Rattle.trace_view.specs.declared.text_views.ViewEnd.{ViewEnd}
use Rattle.trace_view.specs.declared.text_views.ViewEnd.TheVariants.{Breach, Torn, Within}
use Rattle.trace_view.specs.LastLines.{is_table}
use Rattle.trace_view.specs.Shown.{StopsAt, begins_run}

-- the unread part and the number of lines read; the view of the trace; and the reason why the view ended, if it did
pub record TextState : Type 0 where
  pub reading : Reading
  pub viewing : ViewState
  pub stop : Option ViewEnd

-- the trace was read from the text, and the view has seen it
pub record HasSeen (reading : Reading) (viewing : ViewState) (trace : List Event) (text : List ℕ) : Type 0 where
  pub are : are_in_range trace ≡ true
  pub whole : trace_text trace ++ reading.over ≡ text
  pub lines : reading.lines ≡ newlines (trace_text trace)
  pub begins : begins_run trace ≡ true
  pub seen : Viewed viewing (reverse trace)

-- the view has ended, and has seen this trace, which precedes the place where it ended
pub record StopsBy (stop : ViewEnd) (viewing : ViewState) (trace : List Event) (text : List ℕ) : Type 0 where
  pub begins : begins_run trace ≡ true
  pub stops : StopsAt stop trace text
  pub seen : Viewed viewing (reverse trace)

-- the view is reading the text or has ended (`stop`), and has seen this trace of it
abbrev pub AtBy : Option ViewEnd → TextState → List Event → List ℕ → Type 0
AtBy None state trace text = HasSeen state.reading state.viewing trace text
AtBy (Some stop) state trace text = StopsBy stop state.viewing trace text

-- the view is reading the text, and has seen this trace of it
abbrev pub IsAt : TextState → List Event → List ℕ → Type 0
IsAt state trace text = AtBy state.stop state trace text

-- the view has taken the text and seen this trace: it has ended (`stop`), or it is reading the text and the unread part
-- ends within a happening
abbrev pub TakenBy : Option ViewEnd → TextState → List Event → List ℕ → Type 0
TakenBy None state trace text = HasSeen state.reading state.viewing trace text × (is_open state.reading.over ≡ true)
TakenBy (Some stop) state trace text = StopsBy stop state.viewing trace text

-- the view has taken the text, and has seen this trace
abbrev pub HasShown : TextState → List Event → List ℕ → Type 0
HasShown state trace text = TakenBy state.stop state trace text

-- the view has seen one more happening and is still reading the text, or it has taken the text
abbrev pub ViewGoesOn : Option Event → TextState → TextState → List Event → List ℕ → Type 0
ViewGoesOn (Some happening) old new trace text = IsAt old trace text → IsAt new (trace ++ happening ∷ []) text
ViewGoesOn None old new trace text = IsAt old trace text → HasShown new trace text

-- a run can have the happening at this line: a run must have a table at line 1
abbrev pub may_be : ℕ → Event → Bool
may_be line happening = not (line == 1) || is_table happening

-- the view after the next happening, which begins at this line: the view has seen the happening, or has ended before it
abbrev pub SeesStop : Option ViewEnd → ViewState → ViewState → Event → ℕ → Type 0
SeesStop None old new happening line =
    (may_be line happening ≡ true) × ((past : List Event) → Viewed old past → Viewed new (happening ∷ past))
SeesStop (Some (Breach law at)) old new happening line = (new ≡ old) × (at ≡ line)
    × ((past : List Event) → Viewed old past → broken happening past ≡ Some (law_number law))
SeesStop (Some (Torn number)) old new happening line = ⊥
SeesStop (Some Within) old new happening line = (new ≡ old) × (may_be line happening ≡ false)

-- the happening, unless the view ended before it
abbrev pub seen_by : Option ViewEnd → Event → Option Event
seen_by (Some stop) happening = None
seen_by None happening = Some happening

-- the line at which an incomplete happening begins; none if the view has ended
abbrev pub left_of : Option ViewEnd → Option ℕ → Option ℕ
left_of (Some stop) open_line = None
left_of None open_line = open_line
