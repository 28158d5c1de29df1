-- The lines for a text that arrives in pieces and is passed to a view.
use Rattle.std.specs.Prelude.{◌≡◌, ℕ, Bool, true, false, List, reverse, Option, None}
use Rattle.initview_lines.specs.CommonWords.{Event, ViewEnd, IsShown, TextState, HasShown, IsAt}
use Rattle.trace_events.specs.Lawful.{first_breach}
use Rattle.initview_lines.specs.declared.lines.Line.{Line}
use Rattle.initview_lines.specs.Happenings.{follow_in}

-- the view is reading the text, and these are the lines for the trace that it has seen
abbrev pub IsFollowingText : TextState → List Line → List ℕ → Type 0
IsFollowingText state past_lines text = (trace : List Event) × IsAt state trace text
    × (past_lines ≡ follow_in (reverse trace))

-- the view has taken the text, and these are the lines for the trace that it has seen
abbrev pub HasFollowedText : TextState → List Line → List ℕ → Type 0
HasFollowedText state past_lines text = (trace : List Event) × HasShown state trace text
    × (past_lines ≡ follow_in (reverse trace))

-- the view is still reading the text if the flag is true, and otherwise has taken it
abbrev pub FollowsText : Bool → TextState → List Line → TextState → List Line → List ℕ → Type 0
FollowsText true old before new after text = IsFollowingText old before text → IsFollowingText new after text
FollowsText false old before new after text = IsFollowingText old before text → HasFollowedText new after text

-- these are the lines for a trace that the view shows of the text and that breaks no law
abbrev pub AreFollowedLines : List ℕ → Option ViewEnd → Option ℕ → List Line → Type 0
AreFollowedLines text stop open_line past_lines =
    (trace : List Event) × IsShown text stop open_line trace × (first_breach (reverse trace) ≡ None)
    × (past_lines ≡ follow_in (reverse trace))
