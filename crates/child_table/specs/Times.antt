-- The times in a record, in seconds: when its entry was last started, and when its child was last sent a signal.
use Rattle.std.specs.Prelude.{ℕ, Bool, true, ◌&&◌, List, nat_le, Option, Some}
use Rattle.std.specs.List.{list_all}
use Rattle.child_table.specs.declared.children.Stop.{Stop}
use Rattle.child_table.specs.declared.children.Stop.TheVariants.{Termed, Killed}
use Rattle.child_table.specs.State.{SlotState}

-- the last signal was sent no later than now, if one was sent
abbrev pub is_stop_timely : ℕ → Option Stop → Bool
is_stop_timely now (Some (Termed time)) = nat_le time now
is_stop_timely now (Some (Killed time)) = nat_le time now
is_stop_timely now _ = true

-- no start and no signal in the record is later than now, but the end of a hold may be later
abbrev pub is_timely : ℕ → SlotState → Bool
is_timely now slot = list_all (λ start. nat_le start now) slot.limiter.starts && is_stop_timely now slot.stop

-- no start and no signal in the records is later than now
abbrev pub are_timely : ℕ → List SlotState → Bool
are_timely now slots = list_all (is_timely now) slots
