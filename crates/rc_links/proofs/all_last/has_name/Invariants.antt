use Rattle.rc_links.proofs.Words.{string_bytes, ◌≡◌, map, drop}
use Rattle.rc_links.specs.Scripts.{has_name}
use Rattle.rc_links.proofs.all_last.has_name.Given as goal

abbrev pub invariant-loop-other : goal.invariant-loop-other
invariant-loop-other g l =
    has_name l.name (map string_bytes (drop l.other-index l.names)) ≡ has_name l.name (map string_bytes l.names)
