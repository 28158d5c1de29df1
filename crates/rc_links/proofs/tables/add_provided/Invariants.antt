use Rattle.rc_links.proofs.Words.{string_bytes, ◌≡◌, ℕ, List, map, drop, position_in}
use Rattle.rc_links.proofs.NameLemmas.{put_all}
use Rattle.rc_links.proofs.tables.add_provided.Given as goal

abbrev pub invariant-loop-name : goal.invariant-loop-name
invariant-loop-name g l = record {
  names : map string_bytes l.name-items ≡ l.script.header.provides;
  known : (bs : List ℕ) → put_all l.position (map string_bytes (drop l.name-index l.name-items)) bs
      (position_in l.table bs) ≡ put_all l.position l.script.header.provides bs (position_in l.fn.table bs);
}
