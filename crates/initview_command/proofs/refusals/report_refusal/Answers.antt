use Rattle.initview_command.proofs.Words.{inr}
use Rattle.initview_command.proofs.refusals.report_refusal.Goals as goal

pub returns-in-Err : goal.returns-in-Err
returns-in-Err g c = inr (c.report_memory.ensures.status, c.report_memory.ensures.report)
