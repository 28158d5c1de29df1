use Rattle.rc_links.proofs.Words.{◌≡◌, ◌++◌, map, drop}
use Rattle.rc_links.proofs.plans.Plan.names.Given as goal

abbrev pub invariant-loop-script : goal.invariant-loop-script
invariant-loop-script g l =
    map (λ name. name.items) l.names.items ++ map (λ s. s.name) (drop l.script-index l.script-items)
    ≡ map (λ s. s.name) l.self
