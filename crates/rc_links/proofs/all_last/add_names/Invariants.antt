use Rattle.rc_links.proofs.Words.{string_bytes, ◌≡◌, ◌++◌, map, drop}
use Rattle.rc_links.proofs.all_last.add_names.Given as goal

abbrev pub invariant-loop-name : goal.invariant-loop-name
invariant-loop-name g l =
    map string_bytes l.names.items ++ map string_bytes (drop l.name-index l.given)
    ≡ map string_bytes l.fn.names.items ++ map string_bytes l.given
