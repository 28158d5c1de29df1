use Rattle.rc_driver.proofs.LinkWords.{◌≡◌, ◌++◌, map, string_bytes, drop, filter, is_started, texts_of}
use Rattle.rc_driver.proofs.links.start_links.Given as goal

abbrev pub invariant-loop-name : goal.invariant-loop-name
invariant-loop-name g l =
    texts_of l.links.items ++ filter (is_started (map string_bytes l.previous) (map string_bytes l.new))
    (map string_bytes (drop l.name-index l.new))
    ≡ filter (is_started (map string_bytes l.previous) (map string_bytes l.new)) (map string_bytes l.new)
