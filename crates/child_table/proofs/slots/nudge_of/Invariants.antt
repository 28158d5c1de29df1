use Rattle.child_table.proofs.Words.{◌≡◌, map, ids_of_records}
use Rattle.std.specs.Prelude.{drop}
use Rattle.indexmap.specs.IndexMap.{keys, values}
use Rattle.child_table.specs.Indexing.{begun_among}
use Rattle.child_table.proofs.slots.nudge_of.Given as goal

-- beginning the round for the remaining items, too, gives the result
abbrev pub invariant-loop-item : goal.invariant-loop-item
invariant-loop-item g l = record {
  own : keys l.records ≡ ids_of_records (values l.records);
  values : map (begun_among (drop l.item-index l.items)) (values l.records)
      ≡ map (begun_among l.items) (values l.fn.records);
}
