use Rattle.supervisor.proofs.Words.{◌≡◌, ◌≤◌, ◌-◌, BYTE_LIMIT, MakesOver, ExtendsLogFromReader}
use Rattle.supervisor.specs.CallsLead.{TracksPoint}
use Rattle.supervisor.proofs.Taken.{HaveTaken}
use Rattle.supervisor.proofs.hearing.hear_requests.Given as goal

-- this many bytes were taken, by calls that each returned some
abbrev pub invariant-loop-taken : goal.invariant-loop-taken
invariant-loop-taken g l = (l.taken ≤ BYTE_LIMIT)
    × MakesOver g.L.Log.state l.fn.edge.told l.edge.told (g.L.Log.state l.fn.edge.log) (g.L.Log.state l.edge.log)
    (HaveTaken l.taken) (TracksPoint l.fn.core l.fn.blocks) (TracksPoint l.core l.blocks)
    × ExtendsLogFromReader l.fn.core l.core l.fn.blocks l.blocks (g.L.Log.state l.fn.edge.log)
    (g.L.Log.state l.edge.log)
    × (g.H.Host.settings l.edge.host ≡ g.H.Host.settings l.fn.edge.host)

abbrev pub decreases-loop-taken : goal.decreases-loop-taken
decreases-loop-taken g l = BYTE_LIMIT - l.taken
