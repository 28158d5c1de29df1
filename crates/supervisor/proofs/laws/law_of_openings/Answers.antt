use Rattle.supervisor.proofs.Opened.{opening_fresh}
use Rattle.supervisor.proofs.laws.law_of_openings.Goals as goal

pub returns : goal.returns
returns c = opening_fresh
