use Rattle.initview_lines.proofs.CommonWords.{◌≡◌, ◌++◌, length, stages_lines}
use Rattle.initview_lines.proofs.plans.add_stages.Given as goal

-- the lines so far, followed by those of the remaining stages, are the lines of all stages
abbrev pub invariant-loop-stage : goal.invariant-loop-stage
invariant-loop-stage l =
    l.lines.items ++ stages_lines l.entries l.rest ≡ l.fn.lines.items ++ stages_lines l.entries l.stages

abbrev pub decreases-loop-stage : goal.decreases-loop-stage
decreases-loop-stage l = length l.rest
