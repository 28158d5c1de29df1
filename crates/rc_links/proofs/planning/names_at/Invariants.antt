use Rattle.rc_links.proofs.Words.{string_bytes, ◌≡◌, ◌++◌, map, drop, names_at}
use Rattle.rc_links.proofs.planning.names_at.Given as goal

abbrev pub invariant-loop-position : goal.invariant-loop-position
invariant-loop-position g l =
    map string_bytes l.names.items ++ names_at l.scripts (drop l.position-index l.places) ≡ names_at l.scripts l.places
