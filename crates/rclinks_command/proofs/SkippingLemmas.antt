-- Lemmas on scripts that are left out one after another.
use Rattle.rclinks_command.proofs.Words.{◌≡◌, ℕ, ◌+◌, List, ◌∷◌, ◌++◌, take, drop, IsRefused, ScriptText, IsFaultAt}
use Rattle.rclinks_command.proofs.Words.{LeavesSome}
use Rattle.std.specs.declared.alloc.Global.{Global}
use Rattle.rc_links.specs.declared.faults.PlanFault.{PlanFault}

pub leaves_more : (scripts before rest : List ScriptText) (found : PlanFault Global) (position : ℕ)
    → LeavesSome scripts before → IsRefused before found
    → IsFaultAt before found position → rest ≡ take position before ++ drop (position + 1) before
    → LeavesSome scripts rest
leaves_more scripts before rest found position left refused at is =
    (before ∷ left.0, (left.1, (found, position, refused, at, is)))
