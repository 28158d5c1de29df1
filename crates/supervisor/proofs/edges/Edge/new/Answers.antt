use Rattle.supervisor.proofs.Told.{firsts_are}
use Rattle.supervisor.proofs.edges.Edge.new.Goals as goal

pub invariant_of-result : goal.invariant_of-result
invariant_of-result g c = rw c.calls_until-told.ensures (firsts_are (g.H.Host.told c.args.host) c.args.log)
