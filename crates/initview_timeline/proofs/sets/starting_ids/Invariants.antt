use Rattle.initview_timeline.proofs.Words.{◌≡◌, ◌||◌, ℕ, List, length, among, starts_there}
use Rattle.initview_timeline.proofs.sets.starting_ids.Given as goal

-- the ids so far, with those of the remaining entries, are those of all entries
abbrev pub invariant-loop-entry : goal.invariant-loop-entry
invariant-loop-entry l = (id : List ℕ)
    → (among id l.ids.keys || starts_there id l.stage l.rest) ≡ starts_there id l.stage l.entries

abbrev pub decreases-loop-entry : goal.decreases-loop-entry
decreases-loop-entry l = length l.rest
