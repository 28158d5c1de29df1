use Rattle.core_waiting.proofs.Words.{◌≡◌, filter_map, length, awaited_of_record}
use Rattle.core_waiting.proofs.awaited.AwaitedChildrenIterator.next.Given as goal

-- only records whose child init does not wait for were skipped
abbrev pub invariant-loop-slot : goal.invariant-loop-slot
invariant-loop-slot g l =
    filter_map (awaited_of_record l.self-inside.stage l.self-inside.table.now) l.self-inside.slots.now ≡ l.fn.self

abbrev pub decreases-loop-slot : goal.decreases-loop-slot
decreases-loop-slot g l = length l.self-inside.slots.now
