use Rattle.supervisor.proofs.Words.{◌≡◌, Tracks, AreSteps, MakesOver, ExtendsLogFromCore}
use Rattle.supervisor.proofs.stepping.take_steps.Given as goal

-- this many steps were carried out
abbrev pub invariant-loop-made : goal.invariant-loop-made
invariant-loop-made g l =
    MakesOver g.L.Log.state l.fn.edge.told l.edge.told (g.L.Log.state l.fn.edge.log) (g.L.Log.state l.edge.log)
    (AreSteps l.strict l.made) (Tracks l.fn.core) (Tracks l.core)
    × ExtendsLogFromCore l.fn.core l.core (g.L.Log.state l.fn.edge.log) (g.L.Log.state l.edge.log)
    × (g.H.Host.settings l.edge.host ≡ g.H.Host.settings l.fn.edge.host)
