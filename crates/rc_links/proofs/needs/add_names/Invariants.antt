use Rattle.rc_links.proofs.Words.{string_bytes, ◌≡◌, ◌++◌, map, drop, filter_map, need, position_in}
use Rattle.rc_links.proofs.needs.add_names.Given as goal

abbrev pub invariant-loop-name : goal.invariant-loop-name
invariant-loop-name g l =
    l.edges.items
    ++ map (need l.phase l.position) (filter_map (position_in l.table) (map string_bytes (drop l.name-index l.names)))
    ≡ l.fn.edges.items ++ map (need l.phase l.position) (filter_map (position_in l.table) (map string_bytes l.names))
