use Rattle.std.proofs.Common.{append-nil, append_assoc}
use Rattle.command_words.proofs.faults.report_refused_words.Goals as goal

pub returns-clause-report : goal.returns-clause-report
returns-clause-report g c =
    rw (← c.if-is_empty.ensures) (simp append_assoc (simp append-nil at c.report_texts.ensures.reported))
