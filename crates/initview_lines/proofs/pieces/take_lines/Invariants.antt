use Rattle.initview_lines.proofs.CommonWords.{ℕ, List, ◌++◌, ◌^◌, ◌<◌, length, Line, HasFollowedText, IsFollowingText}
use Rattle.initview_lines.proofs.pieces.take_lines.Given as goal

-- the view is at work on the text with the piece
abbrev pub invariant-loop : goal.invariant-loop
invariant-loop l = (past_lines : List Line) (text : List ℕ) → length (text ++ l.piece) < 2 ^ 64
    → HasFollowedText l.fn.view (past_lines ++ l.fn.lines.items) text
    → IsFollowingText l.view (past_lines ++ l.lines.items) (text ++ l.piece)

abbrev pub decreases-loop : goal.decreases-loop
decreases-loop l = length l.view.reading.over
