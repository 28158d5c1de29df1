use Rattle.supervisor.proofs.Words.{◌≡◌, TracksAtBlockStart, MakesOver, ExtendsLogFromCore, HasReadSomeBytes}
use Rattle.supervisor.specs.CallsLead.{TracksPoint}
use Rattle.supervisor.proofs.Turning.{Going}
use Rattle.supervisor.proofs.serving.serve.Given as goal

abbrev pub invariant-loop-made : goal.invariant-loop-made
invariant-loop-made g l =
    MakesOver g.L.Log.state l.fn.edge.told l.edge.told (g.L.Log.state l.fn.edge.log) (g.L.Log.state l.edge.log)
    (Going l.strict l.drain (TracksAtBlockStart l.fn.core) l.made (g.W.TurnObserver.seen l.fn.watch)
    (g.W.TurnObserver.seen l.watch))
    (TracksAtBlockStart l.fn.core) (TracksPoint l.core l.blocks)
    × HasReadSomeBytes l.blocks
    × ExtendsLogFromCore l.fn.core l.core (g.L.Log.state l.fn.edge.log) (g.L.Log.state l.edge.log)
    × (g.H.Host.settings l.edge.host ≡ g.H.Host.settings l.fn.edge.host)
