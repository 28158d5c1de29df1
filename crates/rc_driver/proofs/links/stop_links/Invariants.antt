use Rattle.rc_driver.proofs.LinkWords.{◌≡◌, ◌++◌, map, string_bytes, drop, filter, is_link, texts_of}
use Rattle.rc_driver.proofs.links.stop_links.Given as goal

abbrev pub invariant-loop-name : goal.invariant-loop-name
invariant-loop-name g l =
    texts_of l.links.items ++ filter (is_link 75) (map string_bytes (drop l.name-index l.new))
    ≡ filter (is_link 75) (map string_bytes l.new)
