-- The system's children are the children in the core's records, corrected for the answers not yet told to init.
use Rattle.std.specs.Prelude.{ℕ, Bool, not, ◌&&◌, ◌||◌, List}
use Rattle.std.specs.List.{list_any}
use Rattle.core_model.specs.Words.{Entry, has_id, Event, Child, has_untold_birth, has_untold_end, SlotState}
use Rattle.core_model.specs.Words.{is_record_of, is_numbered}
use Rattle.core_model.specs.State.{CoreState}

-- a record of the core has the child with this id and number
abbrev pub has_record : List ℕ → ℕ → CoreState → Bool
has_record id n core = list_any (λ (slot : SlotState). is_record_of id slot && is_numbered n slot.child) core.slots

-- the child exists according to the records, corrected for the answers not yet told to init: it has a record and its
-- reaping is not among these answers, or its birth is
abbrev pub is_recorded : List ℕ → ℕ → CoreState → List Event → Bool
is_recorded id n core past = has_record id n core && not (has_untold_end id n past) || has_untold_birth id n past

-- the id of the child has no entry in the table
abbrev pub is_without_entry : List Entry → Child → Bool
is_without_entry table child = not (list_any (has_id child.id) table)
