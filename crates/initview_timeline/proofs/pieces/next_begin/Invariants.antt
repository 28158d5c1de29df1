use Rattle.initview_timeline.proofs.Words.{◌≡◌, length, next_begin}
use Rattle.initview_timeline.proofs.pieces.next_begin.Given as goal

-- no mark before the remaining ones ends the piece
abbrev pub invariant-loop-mark : goal.invariant-loop-mark
invariant-loop-mark l = next_begin l.last l.id l.rest ≡ next_begin l.last l.id l.later

abbrev pub decreases-loop-mark : goal.decreases-loop-mark
decreases-loop-mark l = length l.rest
