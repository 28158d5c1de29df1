use Rattle.rclinks_command.proofs.Words.{◌≡◌, ◌++◌, map, drop, targets_of, target_of, targets_in}
use Rattle.rclinks_command.proofs.planned.targets_in.Given as goal

abbrev pub invariant-loop-name : goal.invariant-loop-name
invariant-loop-name l =
    targets_of l.targets.items ++ map target_of (map (λ name. name.items) (drop l.name-index l.name-items))
    ≡ targets_in l.plan
