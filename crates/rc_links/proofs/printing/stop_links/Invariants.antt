use Rattle.rc_links.proofs.Words.{◌≡◌, ◌++◌, map, drop, stop_links}
use Rattle.rc_links.proofs.printing.stop_links.Given as goal

abbrev pub invariant-loop-script : goal.invariant-loop-script
invariant-loop-script g l =
    map (λ link. link.items) l.links.items ++ stop_links l.level (drop l.script-index l.scripts)
    ≡ stop_links l.level l.scripts
