use Rattle.rc_links.proofs.Words.{string_bytes, ◌≡◌, find, map, drop, is_unknown}
use Rattle.rc_links.proofs.tables.missing_in.Given as goal

abbrev pub invariant-loop-name : goal.invariant-loop-name
invariant-loop-name g l =
    find (λ name. is_unknown l.table name) (map string_bytes (drop l.name-index l.names))
    ≡ find (λ name. is_unknown l.table name) (map string_bytes l.names)
