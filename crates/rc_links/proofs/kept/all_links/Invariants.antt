use Rattle.rc_links.proofs.Words.{◌≡◌, ◌++◌, ℕ, List, drop, levels_by, levels_in}
use Rattle.rc_links.proofs.kept.all_links.Given as goal

abbrev pub invariant-loop-folder : goal.invariant-loop-folder
invariant-loop-folder g l =
    (letter : ℕ) (name : List ℕ)
    → levels_by letter name l.found.items ++ levels_in letter name (drop l.folder-index l.folders)
    ≡ levels_in letter name l.folders
