use Rattle.supervisor.proofs.Words.{◌≡◌, ◌++◌, ℕ, List, [], ◌∷◌, length, Ok, TakeBytes, CallsLead, ExtendsLogFromReader}
use Rattle.supervisor.specs.CallsLead.{TracksPoint}
use Rattle.supervisor.proofs.hearing.hear_bytes.Given as goal

-- the bytes before the rest were read
abbrev pub invariant-loop-rest : goal.invariant-loop-rest
invariant-loop-rest g l = (part : List ℕ) × (part ++ l.rest ≡ l.bytes)
    × (l.edge.told ≡ l.fn.edge.told)
    × ((room : ℕ)
    → CallsLead (TracksPoint l.fn.core l.fn.blocks) (TracksPoint l.core l.blocks) (g.L.Log.state l.fn.edge.log)
    (g.L.Log.state l.edge.log) (TakeBytes room (Ok part) ∷ []))
    × ExtendsLogFromReader l.fn.core l.core l.fn.blocks l.blocks (g.L.Log.state l.fn.edge.log)
    (g.L.Log.state l.edge.log)
    × (g.H.Host.settings l.edge.host ≡ g.H.Host.settings l.fn.edge.host)

abbrev pub decreases-loop-rest : goal.decreases-loop-rest
decreases-loop-rest g l = length l.rest
