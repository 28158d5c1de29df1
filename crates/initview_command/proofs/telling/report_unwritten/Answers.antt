use Rattle.initview_command.proofs.Words.{◌∙◌, inl, inr, refl, sym}
use Rattle.initview_command.proofs.Shown.{not_done}
use Rattle.initview_command.proofs.telling.report_unwritten.Goals as goal

pub returns-then-is_unread-clause-ends : goal.returns-then-is_unread-clause-ends
returns-then-is_unread-clause-ends g c = inr (refl, sym c.is_unread.ensures.unread ∙ c.if-is_unread.true)

pub returns-clause-ends : goal.returns-clause-ends
returns-clause-ends g c = inl c.report_fault.ensures.status

pub returns-clause-silent : goal.returns-clause-silent
returns-clause-silent g c = λ done. not_done _ c.report_fault.result c.report_fault.ensures.status done
