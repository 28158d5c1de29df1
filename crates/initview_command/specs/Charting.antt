-- The output of the `timeline` command.
use Rattle.std.specs.Prelude.{ℕ, ◌+◌, nat_le, if◌then◌else◌, List, [], ◌∷◌, Option, Some, None, option_and_then}
use Rattle.initview_command.specs.Words.{number_read, Event, ViewEnd, drawn_of, timeline_of}
use Rattle.initview_lines.specs.declared.lines.Line.{Line}
use Rattle.initview_lines.specs.declared.lines.Line.TheVariants as line
use Rattle.initview_command.specs.declared.charting.Form.{Form}
use Rattle.initview_command.specs.declared.charting.Form.TheVariants.{Lines, Svg}
use Rattle.initview_command.specs.declared.charting.TheConstants.{WIDTH_LEAST, WIDTH_LIMIT}
use Rattle.initview_command.specs.declared.growing.Writer.{Writer}
use Rattle.initview_command.specs.Showing.{stop_status}

-- the width, if it is at least 40 columns (WIDTH_LEAST)
abbrev pub width_if : ℕ → Option ℕ
width_if width = if nat_le WIDTH_LEAST width then Some width else None

abbrev pub width_of : List ℕ → Option ℕ
width_of word = option_and_then width_if (number_read (WIDTH_LIMIT + 1) word)

-- the timeline of a trace, in the given form
abbrev pub drawing : Form → List Event → Line
drawing (Lines width which) past = line.Chart width which (timeline_of (drawn_of past))
drawing (Svg which) past = line.Svg which (timeline_of (drawn_of past))

-- the answer to the query, which is the timeline, and the exit status
abbrev pub drawing_by : Form → Writer → Option ViewEnd → List Event → List Line × ℕ
drawing_by form writer stop past = (drawing form past ∷ [], stop_status stop)
