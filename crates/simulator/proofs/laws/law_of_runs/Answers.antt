use Rattle.trace_laws.proofs.Laws.{lawful_unbroken}
use Rattle.simulator.proofs.Words.{run_lawful, goal_in}
use Rattle.simulator.proofs.Only.{only}
use Rattle.simulator.proofs.laws.law_of_runs.Goals as goal

pub returns-clause-only : goal.returns-clause-only
returns-clause-only c s rest past other one two = only s rest past other one two

pub returns-clause-lawful : goal.returns-clause-lawful
returns-clause-lawful c s rest past run = lawful_unbroken past (run_lawful (goal_in s) past run.runs)
