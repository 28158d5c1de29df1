use Rattle.rc_links.proofs.Words.{◌≡◌, ◌++◌, drop, needs_from}
use Rattle.rc_links.proofs.needs.needs.Given as goal

abbrev pub invariant-loop-position : goal.invariant-loop-position
invariant-loop-position g l = l.edges.items ++ needs_from l.phase l.scripts l.position (drop l.position l.scripts)
    ≡ needs_from l.phase l.scripts 0 l.scripts
