-- The state that init keeps for one id.
use Rattle.std.specs.Prelude.{ℕ, Bool, false, List, Option, Some, None}
use Rattle.std.specs.Option.{option_map}
use Rattle.init_words.specs.declared.entries.Entry.{Entry}
use Rattle.init_words.specs.declared.actions.Act.{Act}
use Rattle.init_words.specs.declared.children.Status.{Status}
use Rattle.init_words.specs.declared.orders.OrderKind.{OrderKind}
use Rattle.init_words.specs.Actions.{is_limited, stays_called, same_act}
use Rattle.respawn_limit.specs.State.{LimiterState, unused}
use Rattle.child_table.specs.declared.children.KnownChild.{KnownChild}
use Rattle.child_table.specs.declared.children.Stop.{Stop}

-- the id, and its action if the table has the id; the child, its open order, and the progress of stopping it; whether a
-- start was ordered since the stage was entered and the entry was added or changed, whether the entry is called,
-- whether a look at the child is due, and whether a signal to the child failed; the last starts and the last hold; and
-- the wait status of the last child
pub record SlotState : Type 0 where
  pub id : List ℕ
  pub table_act : Option Act
  pub child : Option KnownChild
  pub order : Option OrderKind
  pub stop : Option Stop
  pub asked : Bool
  pub called : Bool
  pub look : Bool
  pub missed : Bool
  pub limiter : LimiterState
  pub last : Option Status

-- the record of an entry before any order
abbrev pub new_record : Entry → SlotState
new_record e = record {
  id = e.id;
  table_act = Some e.act;
  child = None;
  order = None;
  stop = None;
  asked = false;
  called = false;
  look = false;
  missed = false;
  limiter = unused;
  last = None;
}

-- the number of the child
abbrev pub child_number : SlotState → Option ℕ
child_number slot = option_map (λ (child : KnownChild). child.number) slot.child

-- the action that the table had for the child's id at its birth
abbrev pub act_born_with : Option KnownChild → Option Act
act_born_with None = None
act_born_with (Some child) = child.act

abbrev pub birth_act : SlotState → Option Act
birth_act slot = act_born_with slot.child

-- there is an action, and it is this one
abbrev pub is_act : Act → Option Act → Bool
is_act act None = false
is_act act (Some other) = same_act other act

-- the respawn limit applies to an entry with this action
abbrev pub is_limited_act : Option Act → Bool
is_limited_act None = false
is_limited_act (Some act) = is_limited act

-- the respawn limit applies to the record's entry
abbrev pub is_limited_record : SlotState → Bool
is_limited_record slot = is_limited_act slot.table_act

-- an entry with this action stays called when it is started
abbrev pub stays_called_act : Option Act → Bool
stays_called_act None = false
stays_called_act (Some act) = stays_called act

-- the record's entry stays called when it is started
abbrev pub stays_called_record : SlotState → Bool
stays_called_record slot = stays_called_act slot.table_act
