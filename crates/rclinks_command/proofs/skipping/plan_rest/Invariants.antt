use Rattle.rclinks_command.proofs.Words.{length, LeavesSome}
use Rattle.rclinks_command.proofs.skipping.plan_rest.Given as goal

abbrev pub invariant-loop-plan : goal.invariant-loop-plan
invariant-loop-plan l = LeavesSome l.fn.reading.scripts.items l.reading.scripts.items

abbrev pub decreases-loop-plan : goal.decreases-loop-plan
decreases-loop-plan l = length l.reading.scripts.items
