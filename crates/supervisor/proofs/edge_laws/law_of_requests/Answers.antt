use Rattle.supervisor.proofs.Requests.{calls_bring}
use Rattle.supervisor.proofs.edge_laws.law_of_requests.Goals as goal

pub returns : goal.returns
returns c calls before p is = calls_bring calls before p is
