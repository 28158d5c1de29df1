use Rattle.host_system.proofs.Asking.{one_helper}
use Rattle.host_system.proofs.bell_making.made_at.Goals as goal

pub returns-in_err-run : goal.returns-in_err-run
returns-in_err-run g c = one_helper _ _ _ c.run.ensures

pub returns-then-success : goal.returns-then-success
returns-then-success g c = one_helper _ _ _ c.run.ensures

pub returns : goal.returns
returns g c = one_helper _ _ _ c.run.ensures
