use Rattle.initview_timeline.proofs.Words.{◌≡◌, length, of_stage}
use Rattle.initview_timeline.proofs.rows.of_stage.Given as goal

-- the marks found so far, updated for the remaining ones, are those from the last stage on
abbrev pub invariant-loop-mark : goal.invariant-loop-mark
invariant-loop-mark l = of_stage l.found l.rest ≡ of_stage l.marks l.marks

abbrev pub decreases-loop-mark : goal.decreases-loop-mark
decreases-loop-mark l = length l.rest
