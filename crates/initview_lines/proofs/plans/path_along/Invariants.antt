use Rattle.initview_lines.proofs.CommonWords.{◌≡◌, ◌++◌, length, map, path_along, waiting}
use Rattle.initview_lines.proofs.plans.path_along.Given as goal

-- the path so far, followed by that of the remaining stages, is the path of all stages
abbrev pub invariant-loop-stage : goal.invariant-loop-stage
invariant-loop-stage l =
    l.path.items ++ map waiting (path_along l.entries l.rest) ≡ map waiting (path_along l.entries l.stages)

abbrev pub decreases-loop-stage : goal.decreases-loop-stage
decreases-loop-stage l = length l.rest
