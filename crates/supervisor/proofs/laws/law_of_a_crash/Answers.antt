use Rattle.supervisor.proofs.Crashes.{leaves}
use Rattle.supervisor.proofs.laws.law_of_a_crash.Goals as goal

pub returns : goal.returns
returns c level table later earlier next call distinct fronts allowed carried =
    leaves level table distinct later earlier next call fronts allowed carried
