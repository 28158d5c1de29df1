use Rattle.initview_timeline.proofs.Words.{◌≡◌, length, ids_from}
use Rattle.initview_timeline.proofs.lives.add_ids.Given as goal

-- the ids so far, with those of the remaining marks, are the ids of all marks
abbrev pub invariant-loop-mark : goal.invariant-loop-mark
invariant-loop-mark l = ids_from l.ids.keys l.rest ≡ ids_from l.fn.ids.keys l.marks

abbrev pub decreases-loop-mark : goal.decreases-loop-mark
decreases-loop-mark l = length l.rest
