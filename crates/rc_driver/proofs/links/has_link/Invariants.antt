use Rattle.rc_driver.proofs.LinkWords.{◌≡◌, map, string_bytes, drop, has_link}
use Rattle.rc_driver.proofs.links.has_link.Given as goal

abbrev pub invariant-loop-name : goal.invariant-loop-name
invariant-loop-name l =
    has_link l.letter l.link (map string_bytes (drop l.name-index l.names))
    ≡ has_link l.letter l.link (map string_bytes l.names)
