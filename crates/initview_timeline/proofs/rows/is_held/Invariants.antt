use Rattle.initview_timeline.proofs.Words.{◌≡◌, length, is_held}
use Rattle.initview_timeline.proofs.rows.is_held.Given as goal

-- no hold before the remaining marks is in force
abbrev pub invariant-loop-mark : goal.invariant-loop-mark
invariant-loop-mark l = is_held l.end l.id l.rest ≡ is_held l.end l.id l.marks

abbrev pub decreases-loop-mark : goal.decreases-loop-mark
decreases-loop-mark l = length l.rest
