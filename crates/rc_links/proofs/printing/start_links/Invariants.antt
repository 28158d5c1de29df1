use Rattle.rc_links.proofs.Words.{◌≡◌, ◌++◌, map, drop, start_links}
use Rattle.rc_links.proofs.printing.start_links.Given as goal

abbrev pub invariant-loop-script : goal.invariant-loop-script
invariant-loop-script g l =
    map (λ link. link.items) l.links.items ++ start_links l.level (drop l.script-index l.scripts)
    ≡ start_links l.level l.scripts
