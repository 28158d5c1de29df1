-- The state of init as plain values, in the form in which it is saved (telinit(8), `u`).
use Rattle.std.specs.Prelude.{List, map}
use Rattle.core_model.specs.Words.{Entry, SlotState, child_number, birth_act}
use Rattle.core_model.specs.declared.parts.CoreFields.{CoreFields}
use Rattle.core_model.specs.declared.parts.PlainSlot.{PlainSlot}
use Rattle.core_model.specs.State.{CoreState}

-- the fields, the table, and a record for each id, in record order
pub record SavedState : Type 0 where
  pub fields : CoreFields
  pub table : List Entry
  pub records : List PlainSlot

-- the plain values of a record
abbrev pub record_of : SlotState → PlainSlot
record_of slot = record {
  id = slot.id;
  child = child_number slot;
  act = birth_act slot;
  order = slot.order;
  stop = slot.stop;
  held_until = slot.limiter.held;
  starts = record { items = slot.limiter.starts };
  asked = slot.asked;
  called = slot.called;
  look = slot.look;
  missed = slot.missed;
  last = slot.last;
}

-- the plain values of a core
abbrev pub state_of : CoreState → SavedState
state_of core = record { fields = core.fields; table = core.table; records = map record_of core.slots }
