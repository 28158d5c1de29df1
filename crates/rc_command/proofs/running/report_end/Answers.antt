use Rattle.rc_command.proofs.Reported.{not_whole_fault, not_whole_limit}
use Rattle.rc_command.proofs.running.report_end.Goals as goal

pub returns-in-Limit-clause-silent : goal.returns-in-Limit-clause-silent
returns-in-Limit-clause-silent g c = λ whole. absurd (not_whole_limit _ c.report_limit.ensures.status whole)

pub returns-in-Write-clause-silent : goal.returns-in-Write-clause-silent
returns-in-Write-clause-silent g c = λ whole. absurd (not_whole_fault _ c.report_fault.ensures.status whole)

pub returns-in-Memory-clause-silent : goal.returns-in-Memory-clause-silent
returns-in-Memory-clause-silent g c = λ whole. absurd (not_whole_fault _ c.report_fault-in-Memory.ensures.status whole)
