use Rattle.initview_command.proofs.Words.{inl, says_nothing}
use Rattle.initview_command.proofs.following.report_fault.Goals as goal

pub returns-in-Unread-clause-ends : goal.returns-in-Unread-clause-ends
returns-in-Unread-clause-ends g c = inl c.report_unread.ensures

pub returns-in-Unread-clause-said : goal.returns-in-Unread-clause-said
returns-in-Unread-clause-said g c = says_nothing (g.S.LineSink.said c.args.out.now)
