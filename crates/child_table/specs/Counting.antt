-- Counts of the records that have an open order, that have an open start or signal, whose child must be stopped, whose
-- child must be stopped and was not sent a signal yet, and whose child could not be sent the last signal.
use Rattle.std.specs.Prelude.{◌≤◌, ◌<◌, ◌+◌, ◌-◌, ◌^◌, List, is_some}
use Rattle.std.specs.List.{count_by}
use Rattle.child_table.specs.declared.counts.Counts.{Counts}
use Rattle.child_table.specs.State.{SlotState}
use Rattle.child_table.specs.Lists.{is_busy}
use Rattle.child_table.specs.Stopping.{is_stop_due}

abbrev pub counts_of : List SlotState → Counts
counts_of slots = record {
  orders = count_by (λ (slot : SlotState). is_some slot.order) slots;
  busy = count_by (λ (slot : SlotState). is_busy slot.order) slots;
  excluded = count_by (λ (slot : SlotState). is_some slot.stop) slots;
  due = count_by (λ (slot : SlotState). is_stop_due slot.stop) slots;
  missed = count_by (λ (slot : SlotState). slot.missed) slots;
}

-- the sum of two counts
abbrev pub plus : Counts → Counts → Counts
plus counts more = record {
  orders = counts.orders + more.orders;
  busy = counts.busy + more.busy;
  excluded = counts.excluded + more.excluded;
  due = counts.due + more.due;
  missed = counts.missed + more.missed;
}

-- the difference of two counts
abbrev pub minus : Counts → Counts → Counts
minus counts less = record {
  orders = counts.orders - less.orders;
  busy = counts.busy - less.busy;
  excluded = counts.excluded - less.excluded;
  due = counts.due - less.due;
  missed = counts.missed - less.missed;
}

-- each count in `less` is at most the same count in `counts`
abbrev pub IsWithin : Counts → Counts → Type 0
IsWithin less counts = (less.orders ≤ counts.orders) × (less.busy ≤ counts.busy)
    × (less.excluded ≤ counts.excluded) × (less.due ≤ counts.due) × (less.missed ≤ counts.missed)

-- each count fits in 64 bits
abbrev pub AreSmall : Counts → Type 0
AreSmall counts = (counts.orders < 2 ^ 64) × (counts.busy < 2 ^ 64) × (counts.excluded < 2 ^ 64)
    × (counts.due < 2 ^ 64) × (counts.missed < 2 ^ 64)
