use Rattle.rc_driver.proofs.LinkWords.{◌≡◌, ◌++◌, map, string_bytes, drop, filter, texts_of}
use Rattle.rc_driver.specs.Sysv.{is_stopping}
use Rattle.rc_driver.proofs.links.stopping_links.Given as goal

abbrev pub invariant-loop-name : goal.invariant-loop-name
invariant-loop-name g l =
    texts_of l.links.items
    ++ filter (is_stopping l.letter (map string_bytes l.previous)) (map string_bytes (drop l.name-index l.new))
    ≡ filter (is_stopping l.letter (map string_bytes l.previous)) (map string_bytes l.new)
