use Rattle.rclinks_command.proofs.Words.{◌≡◌, map, take, AllByRecursion, IsFolder, all_levels}
use Rattle.rclinks_command.proofs.planned.folders_in.Given as goal

abbrev pub invariant-loop-level : goal.invariant-loop-level
invariant-loop-level g l =
    AllByRecursion (IsFolder (g.F.LinkFolders.held l.folders) l.dir l.plan) l.found.items
    × (map (λ f. f.level) l.found.items ≡ take l.level-index all_levels)
