use Rattle.rc_links.proofs.Words.{◌≡◌, ◌++◌, drop, changes_of, targets_of}
use Rattle.std.proofs.Common.{flat_map}
use Rattle.rc_links.proofs.changing.changes.Given as goal

abbrev pub invariant-loop-folder : goal.invariant-loop-folder
invariant-loop-folder g l =
    l.found.items ++ flat_map (changes_of (targets_of l.targets)) (drop l.folder-index l.folders)
    ≡ flat_map (changes_of (targets_of l.targets)) l.folders
