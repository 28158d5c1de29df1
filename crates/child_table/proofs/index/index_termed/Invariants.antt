use Rattle.child_table.proofs.Words.{◌≡◌, ◌≤◌, true, length, take, vec_capacity, are_sorted, termed_of, AreKeysOf}
use Rattle.child_table.proofs.index.index_termed.Given as goal

-- the items are those of the records so far, and there is room for all
abbrev pub invariant-loop-slot : goal.invariant-loop-slot
invariant-loop-slot g l = record {
  sorted : are_sorted l.items.items ≡ true;
  those : AreKeysOf termed_of (take l.slot-index l.slots) l.items.items;
  room : length l.slots ≤ vec_capacity l.items;
}
