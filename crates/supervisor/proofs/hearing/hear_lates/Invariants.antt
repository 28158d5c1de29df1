use Rattle.supervisor.proofs.Words.{◌≡◌, ◌<◌, ◌-◌, LATE_LIMIT, Counted, Tracks, MakesOver, ExtendsLogFromCore}
use Rattle.supervisor.proofs.Taken.{HaveCome}
use Rattle.supervisor.proofs.hearing.hear_lates.Given as goal

-- this many late answers have come
abbrev pub invariant-loop-asked : goal.invariant-loop-asked
invariant-loop-asked g l = (l.asked < LATE_LIMIT)
    × MakesOver g.L.Log.state l.fn.edge.told l.edge.told (g.L.Log.state l.fn.edge.log) (g.L.Log.state l.edge.log)
    (HaveCome l.asked) (λ goal p. Tracks l.fn.core goal p × Counted 0 goal p)
    (λ goal p. Tracks l.core goal p × Counted l.asked goal p)
    × ExtendsLogFromCore l.fn.core l.core (g.L.Log.state l.fn.edge.log) (g.L.Log.state l.edge.log)
    × (g.H.Host.settings l.edge.host ≡ g.H.Host.settings l.fn.edge.host)

abbrev pub decreases-loop-asked : goal.decreases-loop-asked
decreases-loop-asked g l = LATE_LIMIT - l.asked
