use Rattle.supervisor.proofs.Crashes.{leaves_in}
use Rattle.supervisor.proofs.laws.law_of_held_looks.Goals as goal

pub returns : goal.returns
returns c = leaves_in
