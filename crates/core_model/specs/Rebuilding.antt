-- Rebuilding a core from the saved state of an earlier one (telinit(8), `u`).
use Rattle.std.specs.Prelude.{ℕ, Bool, true, false, ◌&&◌, if◌then◌else◌, List, [], ◌∷◌, map, Option, Some, None}
use Rattle.std.specs.List.{list_all}
use Rattle.std.specs.Option.{option_map}
use Rattle.core_model.specs.Words.{Act, Entry, same_id, KnownChild, SlotState}
use Rattle.core_model.specs.declared.parts.PlainSlot.{PlainSlot}
use Rattle.core_model.specs.Parts.{SavedState}
use Rattle.core_model.specs.Rules.{is_non_decreasing}
use Rattle.core_model.specs.State.{CoreState}

-- the child with this number, which was born with this action
abbrev pub living_of : Option ℕ → Option Act → Option KnownChild
living_of None act = None
living_of (Some number) act = Some (record { number = number; act = act })

-- the record with these plain values; `act` is the table's action for its id
abbrev pub record_from : Option Act → PlainSlot → SlotState
record_from act r = record {
  id = r.id;
  table_act = act;
  child = living_of r.child r.act;
  order = r.order;
  stop = r.stop;
  asked = r.asked;
  called = r.called;
  look = r.look;
  missed = r.missed;
  limiter = record { starts = r.starts.items; held = r.held_until };
  last = r.last;
}

-- the records with these plain values; the first ones belong to the entries of the table
abbrev pub records_along : List Entry → List PlainSlot → List SlotState
records_along [] records = map (record_from None) records
records_along (e ∷ table) [] = []
records_along (e ∷ table) (r ∷ records) = record_from (Some e.act) r ∷ records_along table records

-- a child's number and its action are either both present or both missing
abbrev pub are_paired : Option ℕ → Option Act → Bool
are_paired None None = true
are_paired (Some number) (Some act) = true
are_paired _ _ = false

-- the plain record is whole: it has both a child's number and its action or neither, and its starts do not decrease
abbrev pub is_whole : PlainSlot → Bool
is_whole r = are_paired r.child r.act && is_non_decreasing r.starts.items

-- the record has the id of the entry, if there is an entry
abbrev pub is_for : Option Entry → PlainSlot → Bool
is_for None r = true
is_for (Some e) r = same_id r.id e.id

-- all records are whole, and the first ones belong to the entries of the table
abbrev pub are_whole : List Entry → List PlainSlot → Bool
are_whole [] records = list_all is_whole records
are_whole (e ∷ table) [] = false
are_whole (e ∷ table) (r ∷ records) = is_for (Some e) r && is_whole r && are_whole table records

-- the record with these plain values, if it is whole and has the id of the entry
abbrev pub record_read : Option Entry → PlainSlot → Option SlotState
record_read found r =
    if is_for found r && is_whole r then Some (record_from (option_map (λ (e : Entry). e.act) found) r) else None

-- the core with this state
abbrev pub core_of : SavedState → CoreState
core_of state = record { table = state.table; slots = records_along state.table state.records; fields = state.fields }
