use Rattle.initd_command.proofs.Words.{rules, refl, lawful, unwritten}
use Rattle.initd_command.proofs.check.tell_lawful.Goals as goal

pub returns-then-not-tell : goal.returns-then-not-tell
returns-then-not-tell g c = (unwritten, refl, c.tell.ensures.part, c.report.ensures)

pub returns : goal.returns
returns g c = (lawful _, refl, (refl, c.tell.ensures.whole (search rules)), c.report_judged.ensures)
