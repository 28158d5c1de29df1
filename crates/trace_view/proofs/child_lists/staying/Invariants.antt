use Rattle.trace_view.proofs.Words.{◌≡◌, ◌++◌, length, reverse}
use Rattle.trace_view.specs.ChildLists.{staying}
use Rattle.trace_view.proofs.child_lists.staying.Given as goal

-- the children so far, followed by those of the remaining arrivals, are all children
abbrev pub invariant-loop-arrival : goal.invariant-loop-arrival
invariant-loop-arrival g l =
    l.children.items ++ staying l.gone.entries (reverse l.rest) ≡ staying l.gone.entries (reverse l.arrivals)

abbrev pub decreases-loop-arrival : goal.decreases-loop-arrival
decreases-loop-arrival g l = length l.rest
