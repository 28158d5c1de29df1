use Rattle.std.proofs.Common.{append-nil, arith}
use Rattle.program_io.proofs.ReportLemmas.{some_behind, spoken}
use Rattle.program_io.proofs.faults.report_fault.Goals as goal

pub returns-clause-spoken : goal.returns-clause-spoken
returns-clause-spoken g c =
    spoken _ _ _ c.report_texts.ensures.reported (some_behind c.args.name.now _ (omega (arith)))
