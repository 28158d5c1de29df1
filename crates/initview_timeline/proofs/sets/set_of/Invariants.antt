use Rattle.initview_timeline.proofs.Words.{◌≡◌, ◌||◌, ℕ, List, length, among}
use Rattle.initview_timeline.proofs.sets.set_of.Given as goal

-- the ids so far, with the remaining ones, are all ids
abbrev pub invariant-loop-id : goal.invariant-loop-id
invariant-loop-id l = (id : List ℕ) → (among id l.set.keys || among id l.rest) ≡ among id l.ids

abbrev pub decreases-loop-id : goal.decreases-loop-id
decreases-loop-id l = length l.rest
