use Rattle.supervisor.proofs.Words.{[]}
use Rattle.supervisor.proofs.Opened.{opened_by}
use Rattle.supervisor.proofs.opening.Opening.serve.Goals as goal

pub returns-clause-trace : goal.returns-clause-trace
returns-clause-trace g c =
    rw (← c.self.view_is) (opened_by g.L.Log.state c.args.edge.now c.write.new.self c.serve-served.new.edge
    c.args.strict c.args.drain c.serve-served.result.turns (g.W.TurnObserver.seen c.args.watch.now)
    (g.W.TurnObserver.seen c.serve-served.new.watch)
    (record { core = c.self.inside.core.value; told = c.self.inside.told }) c.serve-served.new.core
    c.write.ensures.told (c.write.ensures.logs []) (rw c.deref_mut.ensures.value at c.serve-served.ensures.trace))
