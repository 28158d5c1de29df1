-- How each event changes a record: an order, a hold, a call, a new stage, a new round, an answer (init(8)).
use Rattle.std.specs.Prelude.{ℕ, Bool, true, false, not, ◌&&◌, ◌||◌, if◌then◌else◌, Option, Some, None, is_some}
use Rattle.std.specs.Prelude.{is_none}
use Rattle.init_words.specs.declared.orders.OrderKind.{OrderKind}
use Rattle.init_words.specs.declared.orders.OrderKind.TheVariants.{Start, Look, Term, Kill}
use Rattle.init_words.specs.declared.orders.Answer.{Answer}
use Rattle.init_words.specs.declared.orders.Answer.TheVariants.{Born, Ended, Hit, Miss}
use Rattle.respawn_limit.specs.State.{unused}
use Rattle.respawn_limit.specs.Window.{may_of, with_start, with_hold}
use Rattle.respawn_limit.specs.declared.May.{May}
use Rattle.respawn_limit.specs.declared.May.TheVariants.{Yes, HoldUntil}
use Rattle.child_table.specs.declared.children.Stop.{Stop}
use Rattle.child_table.specs.declared.children.Stop.TheVariants.{Termed, Killed}
use Rattle.child_table.specs.State.{SlotState, is_limited_record, stays_called_record}

-- the limiter allows a start
abbrev pub allows : May → Bool
allows Yes = true
allows (HoldUntil end) = false

-- init may give this order now: no order is open; a start needs an entry without a child, and the respawn limit, if it
-- applies, must allow the start; any other order needs a child
abbrev pub can_be_asked : OrderKind → ℕ → SlotState → Bool
can_be_asked Start now slot =
    is_none slot.order && is_some slot.table_act && is_none slot.child
    && (not (is_limited_record slot) || allows (may_of slot.limiter now))
can_be_asked ask now slot = is_none slot.order && is_some slot.child

-- the record after an order: a start sets `asked`, ends a call unless the action stays called, and counts toward the
-- respawn limit if that applies; a look clears `look`
abbrev pub after_order : OrderKind → ℕ → SlotState → SlotState
after_order Start now slot = record slot {
  order = Some Start;
  asked = true;
  called = stays_called_record slot && slot.called;
  limiter = if is_limited_record slot then with_start slot.limiter now else slot.limiter;
}
after_order Look now slot = record slot { order = Some Look; look = false }
after_order ask now slot = record slot { order = Some ask }

-- the record after a hold begins
abbrev pub after_hold : ℕ → SlotState → SlotState
after_hold now slot = record slot { limiter = with_hold slot.limiter now }

-- the record after a letter or a power event calls its entry
abbrev pub after_call : SlotState → SlotState
after_call slot = record slot { called = true }

-- the record after init enters a stage: no start was ordered or counted yet, and the entry is neither called nor held
abbrev pub after_enter : SlotState → SlotState
after_enter slot = record slot { asked = false; called = false; limiter = unused }

-- the record after a round begins: init may look at its child, and may retry a signal that could not be sent
abbrev pub after_nudge : SlotState → SlotState
after_nudge slot = record slot { look = is_some slot.child || slot.look; missed = false }

-- the progress of stopping the child after the signal of the open order was sent at this time
abbrev pub after_hit : Option OrderKind → ℕ → Option Stop → Option Stop
after_hit (Some Term) now stop = Some (Termed now)
after_hit (Some Kill) now stop = Some (Killed now)
after_hit _ now stop = stop

-- the record after an answer: the order is no longer open
abbrev pub after_answer : Answer → ℕ → SlotState → SlotState
after_answer (Born number) now slot = record slot {
  order = None;
  child = Some (record { number = number; act = slot.table_act });
  stop = None;
  look = false;
}
after_answer (Ended status) now slot = record slot {
  order = None;
  child = None;
  stop = None;
  look = false;
  missed = false;
  last = Some status;
}
after_answer Hit now slot = record slot { order = None; stop = after_hit slot.order now slot.stop; missed = false }
after_answer Miss now slot = record slot { order = None; missed = true }
after_answer _ now slot = record slot { order = None }

-- the answer removes the record: its child ended, and the table does not have the id
abbrev pub is_over : Answer → SlotState → Bool
is_over (Ended status) slot = is_none slot.table_act
is_over _ slot = false
