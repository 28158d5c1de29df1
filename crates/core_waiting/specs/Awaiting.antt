-- The children that init waits for, in record order, each with its number and the reason, computed in two ways: from
-- the trace, and from init's state.
use Rattle.std.specs.Prelude.{Bool, false, if◌then◌else◌, List, filter, filter_map, find, Option, Some, None, is_some}
use Rattle.std.specs.Prelude.{option_and_then}
use Rattle.std.specs.Option.{option_map}
use Rattle.core_waiting.specs.Words.{Entry, Stage, waited_of, entry_of, Event, Child, is_child_of, known_children}
use Rattle.core_waiting.specs.Words.{record_ids}
use Rattle.core_waiting.specs.Words.{SlotState, CoreState, is_wanted_record}
use Rattle.child_table.specs.declared.children.KnownChild.{KnownChild}
use Rattle.core_waiting.specs.declared.rests.Awaited.{Awaited}
use Rattle.core_waiting.specs.declared.rests.WhyAwaited.{WhyAwaited}
use Rattle.core_waiting.specs.declared.rests.WhyAwaited.TheVariants.{Excluded, WaitedFor, InTheWay}
use Rattle.core_waiting.specs.Rest.{is_awaited, why_awaited}

-- the child with the reason why init waits for it; none if init does not wait for it
abbrev pub with_why : List Event → Child → Option Awaited
with_why past child =
    option_map (λ why. record { id = child.id; number = child.number; why = why }) (why_awaited past child)

-- the children in this list that init waits for, in record order
abbrev pub in_record_order : List Child → List Event → List Awaited
in_record_order children past =
    filter_map (λ id. option_and_then (with_why past) (find (is_child_of id) children)) (record_ids past)

-- the known children that init waits for
abbrev pub awaited_known : List Event → List Child
awaited_known past = filter (is_awaited past) (known_children past)

-- the entry is wanted in the stage, according to its record; before the first stage nothing is wanted
abbrev pub is_wanted_in : Option Stage → Entry → SlotState → Bool
is_wanted_in None e slot = false
is_wanted_in (Some stage) e slot = is_wanted_record stage e slot

-- the reason why init waits for a child because of its entry: init waits for the entry, or the entry is wanted again
abbrev pub why_by_entry : Option Stage → Option Entry → SlotState → Option WhyAwaited
why_by_entry stage None slot = None
why_by_entry stage (Some e) slot =
    if waited_of e then Some WaitedFor else if is_wanted_in stage e slot then Some InTheWay else None

-- the reason why init waits for a record's child, if it does: the child must be stopped, or its entry is a reason
abbrev pub why_of_record : Option Stage → List Entry → SlotState → Option WhyAwaited
why_of_record stage table slot =
    if is_some slot.stop then Some Excluded else why_by_entry stage (entry_of slot.id table) slot

-- the record's child and the reason why init waits for it; none if init does not wait for a child of the record
abbrev pub awaited_of_record : Option Stage → List Entry → SlotState → Option Awaited
awaited_of_record stage table slot =
    option_and_then (λ (child : KnownChild).
    option_map (λ why. record { id = slot.id; number = child.number; why = why }) (why_of_record stage table slot))
    slot.child

-- the children that init waits for, according to its state
abbrev pub awaited_by : CoreState → List Awaited
awaited_by c = filter_map (awaited_of_record c.fields.stage c.table) c.slots
