-- Record order: the records of the table's entries, in table order, each with the id and the action of its entry, then
-- the records of other ids.
use Rattle.std.specs.Prelude.{◌≡◌, true, List, [], ◌∷◌, Some, is_none}
use Rattle.std.specs.List.{list_all}
use Rattle.init_words.specs.declared.entries.Entry.{Entry}
use Rattle.child_table.specs.State.{SlotState}

abbrev pub IsInOrder : List Entry → List SlotState → Type 0
IsInOrder [] slots = list_all (λ (slot : SlotState). is_none slot.table_act) slots ≡ true
IsInOrder (e ∷ table) [] = ⊥
IsInOrder (e ∷ table) (slot ∷ slots) = (slot.id ≡ e.id) × (slot.table_act ≡ Some e.act) × IsInOrder table slots
