use Rattle.trace_view.proofs.Words.{◌≡◌, find, length, reverse, is_excluded_by}
use Rattle.trace_view.specs.ChildLists.{staying}
use Rattle.trace_view.proofs.child_lists.first_excluded.Given as goal

-- the first excluded child among the remaining arrivals is the first one of all
abbrev pub invariant-loop-arrival : goal.invariant-loop-arrival
invariant-loop-arrival g l = find (is_excluded_by l.table l.stage) (staying l.gone.entries (reverse l.rest))
    ≡ find (is_excluded_by l.table l.stage) (staying l.gone.entries (reverse l.arrivals))

abbrev pub decreases-loop-arrival : goal.decreases-loop-arrival
decreases-loop-arrival g l = length l.rest
