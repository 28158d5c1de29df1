use Rattle.initview_lines.proofs.CommonWords.{ℕ, List, ◌++◌, ◌^◌, ◌<◌, length, Line, HasTold, IsTelling}
use Rattle.initview_lines.proofs.part_views.PartView.take.Given as goal

-- the text with the piece is being read
abbrev pub invariant-loop : goal.invariant-loop
invariant-loop l = (past_lines : List Line) (text : List ℕ) → length (text ++ l.piece) < 2 ^ 64
    → HasTold l.fn.self (past_lines ++ l.fn.lines.items) text
    → IsTelling l.self (past_lines ++ l.lines.items) (text ++ l.piece)

abbrev pub decreases-loop : goal.decreases-loop
decreases-loop l = length l.self.reading.over
