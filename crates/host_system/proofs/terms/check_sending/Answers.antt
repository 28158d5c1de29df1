use Rattle.host_system.proofs.Asking.{one_helper}
use Rattle.host_system.proofs.terms.check_sending.Goals as goal

pub returns-in-Ok : goal.returns-in-Ok
returns-in-Ok g c = one_helper _ _ _ c.run.ensures

pub returns-in-Ok-2 : goal.returns-in-Ok-2
returns-in-Ok-2 g c = one_helper _ _ _ c.run.ensures

pub returns-in-Ok-3 : goal.returns-in-Ok-3
returns-in-Ok-3 g c = one_helper _ _ _ c.run.ensures

pub returns-in-Ok-4 : goal.returns-in-Ok-4
returns-in-Ok-4 g c = one_helper _ _ _ c.run.ensures

pub returns : goal.returns
returns g c = one_helper _ _ _ c.run.ensures
