use Rattle.initview_command.proofs.Words.{inl, says_nothing}
use Rattle.initview_command.proofs.Shown.{not_done}
use Rattle.initview_command.proofs.telling.report_unsaid.Goals as goal

pub returns-in-Memory-clause-ends : goal.returns-in-Memory-clause-ends
returns-in-Memory-clause-ends g c = inl c.report_memory.ensures.status

pub returns-in-Memory-clause-said : goal.returns-in-Memory-clause-said
returns-in-Memory-clause-said g c = says_nothing (g.S.LineSink.said c.args.out.now)

pub returns-in-Memory-clause-silent : goal.returns-in-Memory-clause-silent
returns-in-Memory-clause-silent g c = λ done. not_done _ c.report_memory.result c.report_memory.ensures.status done
