-- How the records change when init reads a new table (init(8)).
use Rattle.std.specs.Prelude.{Bool, false, ◌&&◌, if◌then◌else◌, ◌++◌, List, map, filter, Option, Some, None, is_some}
use Rattle.std.specs.Prelude.{is_none}
use Rattle.init_words.specs.declared.entries.Entry.{Entry}
use Rattle.respawn_limit.specs.State.{unused}
use Rattle.inittab_text.specs.Tables.{entry_of}
use Rattle.child_table.specs.State.{SlotState, new_record, is_act}
use Rattle.child_table.specs.Lists.{record_by_id}

-- the record of an entry of the new table: it keeps the id's child, open order and stop, and the wait status of the
-- last child; it keeps `asked` if the id had the same action before; it loses calls, starts and holds
abbrev pub adopted : Entry → Option SlotState → SlotState
adopted e None = new_record e
adopted e (Some slot) = record slot {
  id = e.id;
  table_act = Some e.act;
  asked = slot.asked && is_act e.act slot.table_act;
  called = false;
  limiter = unused;
}

-- the record of an id that is not in the new table: the child and its state stay, but calls, starts and holds are lost
abbrev pub left_over : SlotState → SlotState
left_over slot = record slot { table_act = None; asked = false; called = false; limiter = unused }

-- the new table has no entry for the record, which is kept because it has a child
abbrev pub is_left_over : List Entry → SlotState → Bool
is_left_over table slot = is_some slot.child && is_none (entry_of slot.id table)

-- the record without its entry, if it stays although its id is not in the new table
abbrev pub left_one : List Entry → Option SlotState → Option SlotState
left_one table None = None
left_one table (Some slot) = if is_left_over table slot then Some (left_over slot) else None

-- the records of the new table's entries, in table order
abbrev pub entry_records : List Entry → List SlotState → List SlotState
entry_records table slots = map (λ (e : Entry). adopted e (record_by_id e.id slots)) table

-- the records that are kept without an entry, in their previous order
abbrev pub left_records : List Entry → List SlotState → List SlotState
left_records table slots = map left_over (filter (is_left_over table) slots)

-- the records after init adopts the table: those of its entries, then those kept without an entry
abbrev pub after_adopt : List Entry → List SlotState → List SlotState
after_adopt table slots = entry_records table slots ++ left_records table slots
