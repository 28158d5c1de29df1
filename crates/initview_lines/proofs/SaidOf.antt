-- Lemmas on the lines for a text that was taken, also if the text continues after the line at which the view stopped.
use Rattle.initview_lines.proofs.CommonWords.{◌≡◌, refl, ℕ, ◌^◌, ◌<◌, true, is_some, List, ◌++◌, length, Option, Some}
use Rattle.initview_lines.proofs.CommonWords.{None, option_map, Event, line_left, capped, ViewEnd, IsShown, TextState}
use Rattle.initview_lines.proofs.CommonWords.{left_of, shown, stops_more, Line, HasFollowedText, AreFollowedLines}

-- the lines of a view that has taken the text are lines for the text
pub said_of : (state : TextState) (past_lines : List Line) (text : List ℕ) → length text < 2 ^ 64
    → HasFollowedText state past_lines text
    → (stop : Option ViewEnd) × (open_line : Option ℕ) × AreFollowedLines text stop open_line past_lines
said_of state past_lines text small has =
    let open_line : Option ℕ =
    left_of state.stop (option_map capped (line_left state.reading.lines state.reading.over)) in
    let so = shown state.stop state has.0 text open_line small has.1 refl in
    (state.stop, open_line, (has.0, so.0, so.1.judged.lawful, has.2))

shown_more : (text more : List ℕ) (stop : Option ViewEnd) (open_line : Option ℕ) (trace : List Event)
    → is_some stop ≡ true → IsShown text stop open_line trace → IsShown (text ++ more) stop open_line trace
shown_more text more None open_line trace is so = absurd (cc)
shown_more text more (Some stop) open_line trace is so = (so.0, (stops_more stop trace text more so.1.0, so.1.1))

-- if the view stopped at a line, the text may continue after it
pub said_more : (text more : List ℕ) (stop : Option ViewEnd) (open_line : Option ℕ) (past_lines : List Line)
    → is_some stop ≡ true → AreFollowedLines text stop open_line past_lines
    → AreFollowedLines (text ++ more) stop open_line past_lines
said_more text more stop open_line past_lines is so =
    (so.0, shown_more text more stop open_line so.0 is so.1, so.2, so.3)
