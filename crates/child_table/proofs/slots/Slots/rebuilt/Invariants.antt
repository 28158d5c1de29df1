use Rattle.child_table.proofs.Words.{◌≡◌, ◌++◌, length, into_iter_items, into_iter_len}
use Rattle.child_table.proofs.Words.{are_distinct, true}
use Rattle.child_table.proofs.slots.Slots.rebuilt.Given as goal

-- the records so far are distinct, and are followed by the remaining ones
abbrev pub invariant-loop-slot : goal.invariant-loop-slot
invariant-loop-slot g l = (l.slots ++ into_iter_items l.slot-iterator ≡ l.fn.given.items)
    × (into_iter_len l.slot-iterator ≡ length (into_iter_items l.slot-iterator))
    × (are_distinct l.slots ≡ true)
