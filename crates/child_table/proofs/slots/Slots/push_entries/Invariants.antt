use Rattle.child_table.proofs.Words.{◌≡◌, ◌++◌, map, drop, Entry, record_by_id, adopted, entry_records}
use Rattle.child_table.proofs.slots.Slots.push_entries.Given as goal

-- the records so far, followed by those of the remaining entries
abbrev pub invariant-loop-position : goal.invariant-loop-position
invariant-loop-position g l = l.self ++ map (λ (e : Entry). adopted e (record_by_id e.id l.before))
    (drop l.position l.table) ≡ l.fn.self ++ entry_records l.table l.before
