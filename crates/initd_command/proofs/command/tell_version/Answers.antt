use Rattle.initd_command.proofs.Words.{refl, Keeps-refl, done, unversioned}
use Rattle.initd_command.proofs.command.tell_version.Goals as goal

pub returns-then-write_version : goal.returns-then-write_version
returns-then-write_version g c =
    (done, refl, c.write_version.ensures.done c.if-write_version.true, refl)

pub returns : goal.returns
returns g c = (unversioned, refl, c.write_version.ensures.part, c.report.ensures)
