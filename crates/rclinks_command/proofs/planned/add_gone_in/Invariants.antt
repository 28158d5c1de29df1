use Rattle.rclinks_command.proofs.Words.{◌≡◌, ◌++◌, drop, flat_map, targets_of, gone_at}
use Rattle.rclinks_command.proofs.planned.add_gone_in.Given as goal

abbrev pub invariant-loop-folder : goal.invariant-loop-folder
invariant-loop-folder l =
    targets_of l.targets.items ++ flat_map (gone_at l.scripts) (drop l.folder-index l.folders)
    ≡ targets_of l.fn.targets.items ++ flat_map (gone_at l.scripts) l.folders
