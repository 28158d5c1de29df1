use Rattle.rclinks_command.proofs.Words.{◌≡◌, ◌++◌, map, drop, link_entry, planned_at}
use Rattle.rclinks_command.proofs.planned.planned_at.Given as goal

abbrev pub invariant-loop-link : goal.invariant-loop-link
invariant-loop-link l =
    l.planned.items ++ map link_entry (map (λ link. link.items) (drop l.link-index l.link-items))
    ≡ planned_at l.plan l.fn.level
