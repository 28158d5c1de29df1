use Rattle.initview_timeline.proofs.Words.{◌≡◌, ◌||◌, ℕ, List, length, among, is_waited}
use Rattle.initview_timeline.proofs.sets.waited_ids.Given as goal

-- the ids so far, with the waited ones of the remaining entries, are the waited ones of all entries
abbrev pub invariant-loop-entry : goal.invariant-loop-entry
invariant-loop-entry l = (id : List ℕ) → (among id l.ids.keys || is_waited id l.rest) ≡ is_waited id l.entries

abbrev pub decreases-loop-entry : goal.decreases-loop-entry
decreases-loop-entry l = length l.rest
