use Rattle.child_table.proofs.Words.{◌≡◌, ◌++◌, drop, left_records}
use Rattle.child_table.proofs.slots.Slots.push_left.Given as goal

-- the records so far, followed by those that stay of the remaining ones
abbrev pub invariant-loop-position : goal.invariant-loop-position
invariant-loop-position g l =
    l.self ++ left_records l.table (drop l.position l.before) ≡ l.fn.self ++ left_records l.table l.before
