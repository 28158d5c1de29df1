use Rattle.std.proofs.Common.{arith}
use Rattle.program_io.proofs.ReportLemmas.{spoken}
use Rattle.telinit_command.proofs.run.report_torn.Goals as goal

pub returns-clause-spoken : goal.returns-clause-spoken
returns-clause-spoken g c = spoken _ _ _ c.report_texts.ensures.reported (omega (arith))
