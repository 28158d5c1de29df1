use Rattle.rc_links.proofs.Words.{string_bytes, ◌≡◌, ◌++◌, map, drop, other_names}
use Rattle.std.specs.List.{flat_map}
use Rattle.rc_links.proofs.all_last.others.Given as goal

abbrev pub invariant-loop-script : goal.invariant-loop-script
invariant-loop-script g l =
    map string_bytes l.names.items ++ flat_map (other_names l.phase) (drop l.script-index l.scripts)
    ≡ flat_map (other_names l.phase) l.scripts
