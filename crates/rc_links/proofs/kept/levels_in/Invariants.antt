use Rattle.rc_links.proofs.Words.{◌≡◌, ◌++◌, drop, levels_by}
use Rattle.rc_links.proofs.kept.levels_in.Given as goal

abbrev pub invariant-loop-level : goal.invariant-loop-level
invariant-loop-level g l =
    l.levels.items ++ levels_by l.letter l.name (drop l.level-index l.links) ≡ levels_by l.letter l.name l.links
