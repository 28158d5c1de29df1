use Rattle.initview_command.proofs.Words.{inr}
use Rattle.initview_command.proofs.refusals.report_fault.Goals as goal

pub returns-in-Memory-clause-report : goal.returns-in-Memory-clause-report
returns-in-Memory-clause-report g c = inr (c.report_memory.ensures.status, c.report_memory.ensures.report)
