use Rattle.rc_links.proofs.Words.{string_bytes, ◌≡◌, find, map, drop, is_known}
use Rattle.rc_links.proofs.tables.first_known.Given as goal

abbrev pub invariant-loop-name : goal.invariant-loop-name
invariant-loop-name g l =
    find (λ name. is_known l.table name) (map string_bytes (drop l.name-index l.names))
    ≡ find (λ name. is_known l.table name) (map string_bytes l.names)
