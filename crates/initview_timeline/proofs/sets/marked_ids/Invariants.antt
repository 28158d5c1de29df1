use Rattle.initview_timeline.proofs.Words.{◌≡◌, ◌||◌, ℕ, List, length, among, had_marks}
use Rattle.initview_timeline.proofs.sets.marked_ids.Given as goal

-- the ids so far, with those of the remaining marks, are those of all marks
abbrev pub invariant-loop-mark : goal.invariant-loop-mark
invariant-loop-mark l = (id : List ℕ) → (among id l.ids.keys || had_marks id l.rest) ≡ had_marks id l.marks

abbrev pub decreases-loop-mark : goal.decreases-loop-mark
decreases-loop-mark l = length l.rest
