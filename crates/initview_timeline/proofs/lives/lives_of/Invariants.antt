use Rattle.initview_timeline.proofs.Words.{◌≡◌, [], length, lives_from}
use Rattle.initview_timeline.proofs.lives.lives_of.Given as goal

-- the lives so far, updated for the remaining marks, are the lives for all marks
abbrev pub invariant-loop-mark : goal.invariant-loop-mark
invariant-loop-mark l = lives_from l.lives.items l.rest ≡ lives_from [] l.marks

abbrev pub decreases-loop-mark : goal.decreases-loop-mark
decreases-loop-mark l = length l.rest
