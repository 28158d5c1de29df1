use Rattle.std.proofs.Common.{arith}
use Rattle.program_io.proofs.ReportLemmas.{spoken}
use Rattle.rc_command.proofs.running.report_no_level.Goals as goal

pub returns-clause-spoken : goal.returns-clause-spoken
returns-clause-spoken g c = spoken _ _ _ c.report_texts.ensures.reported (omega (arith))
