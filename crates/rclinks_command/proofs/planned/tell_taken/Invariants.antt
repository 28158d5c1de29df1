use Rattle.rclinks_command.proofs.Words.{◌≡◌, ◌||◌, drop, targets_of, has_taken}
use Rattle.rclinks_command.proofs.planned.tell_taken.Given as goal

abbrev pub invariant-loop-folder : goal.invariant-loop-folder
invariant-loop-folder l =
    (l.found || has_taken (targets_of l.targets) (drop l.folder-index l.folders))
    ≡ has_taken (targets_of l.targets) l.folders
