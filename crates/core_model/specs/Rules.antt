-- The rules that the state of init always obeys (init(8), telinit(8)). Init never reaches a state that breaks one of
-- them, and a saved state that breaks one is rejected.
use Rattle.std.specs.Prelude.{◌≡◌, ℕ, Bool, true, false, not, ◌&&◌, ◌||◌, ◌==◌, ◌+◌, if◌then◌else◌, List, [], ◌∷◌}
use Rattle.std.specs.Prelude.{length, zip, nat_le, Option, Some, None, is_some, is_none}
use Rattle.std.specs.List.{list_all, list_any}
use Rattle.core_model.specs.Words.{Act, Entry, Start, Look, Term, Kill, Stage, is_called_by, is_ondemand, starts_of}
use Rattle.core_model.specs.Words.{same_level, entry_of, CLOCK_LIMIT, HOLD, STARTS, LimiterState, Goal, is_order}
use Rattle.core_model.specs.Words.{in_run, KnownChild, Stop, Due, Termed, SlotState, is_limited_record, are_distinct}
use Rattle.init_words.specs.declared.orders.OrderKind.{OrderKind}
use Rattle.init_words.specs.declared.orders.PowerKind.TheVariants as power
use Rattle.init_words.specs.declared.stages.Stage.TheVariants as stage
use Rattle.child_table.specs.Judging.{is_excluded}
use Rattle.child_table.specs.Order.{IsInOrder}
use Rattle.child_table.specs.Times.{is_timely}
use Rattle.core_model.specs.declared.parts.CoreFields.{CoreFields}
use Rattle.core_model.specs.Decide.{has_excluded, is_owed_record}
use Rattle.core_model.specs.State.{CoreState}

-- the record belongs to an entry, or has a child
abbrev pub has_cause : SlotState → Bool
has_cause slot = is_some slot.table_act || is_some slot.child

-- if there is a child, the record has the action with which it was born
abbrev pub is_birth_known : Option KnownChild → Bool
is_birth_known None = true
is_birth_known (Some child) = is_some child.act

-- the signal may be open at this point in stopping the child: TERM if no signal was sent, KILL after TERM
abbrev pub may_follow : OrderKind → Option Stop → Bool
may_follow Term (Some Due) = true
may_follow Kill (Some (Termed time)) = true
may_follow _ _ = false

-- the record allows this order to be open: a start needs an entry and no child, any other order needs a child, and a
-- signal must be the next one
abbrev pub allows_order : Option OrderKind → SlotState → Bool
allows_order None slot = true
allows_order (Some Start) slot = is_some slot.table_act && is_none slot.child
allows_order (Some Look) slot = is_some slot.child
allows_order (Some signal) slot = is_some slot.child && may_follow signal slot.stop

-- the record allows its open order
abbrev pub is_order_allowed : SlotState → Bool
is_order_allowed slot = allows_order slot.order slot

-- a start of the record's entry is open
abbrev pub is_started : SlotState → Bool
is_started slot = is_order Start slot.order

-- if a start of the entry is open, `asked` is set, and the entry starts in the stage
abbrev pub is_start_allowed : Stage → Entry → SlotState → Bool
is_start_allowed stage e slot = not (is_started slot) || (slot.asked && starts_of e stage)

-- each open start is allowed, and none is for an entry that follows an owed one
abbrev pub are_starts_along : Stage → List (Entry × SlotState) → Bool
are_starts_along stage [] = true
are_starts_along stage (p ∷ ps) = is_start_allowed stage p.0 p.1
    && (if is_owed_record stage p.0 p.1 then not (list_any (λ (q : Entry × SlotState). is_started q.1) ps)
    else are_starts_along stage ps)

-- no start is open
abbrev pub are_unstarted : List SlotState → Bool
are_unstarted slots = not (list_any is_started slots)

-- the starts are allowed in the stage in force; before the first stage no start is open
abbrev pub are_starts_in : Option Stage → List Entry → List SlotState → Bool
are_starts_in None table slots = are_unstarted slots
are_starts_in (Some stage) table slots = are_starts_along stage (zip table slots)

-- no start is open while a child is excluded
abbrev pub are_starts_free : List SlotState → Bool
are_starts_free slots = are_unstarted slots || not (has_excluded slots)

-- a child born with this action is excluded in the stage in force; before the first stage, every child is excluded
abbrev pub is_excluded_in : Option Stage → Option Act → Option Entry → Bool
is_excluded_in None born found = true
is_excluded_in (Some stage) born found = is_excluded stage born found

-- the record has a child, and it is excluded
abbrev pub is_child_excluded : Option Stage → List Entry → SlotState → Option KnownChild → Bool
is_child_excluded stage table slot None = false
is_child_excluded stage table slot (Some child) = is_excluded_in stage child.act (entry_of slot.id table)

-- the record marks its child for stopping exactly if the child is excluded
abbrev pub is_stop_judged : Option Stage → List Entry → SlotState → Bool
is_stop_judged stage table slot =
    if is_child_excluded stage table slot slot.child then is_some slot.stop else is_none slot.stop

-- a power event or a letter can call an entry with this action
abbrev pub is_callable : Option Act → Bool
is_callable None = false
is_callable (Some act) = is_called_by power.Fail act || is_called_by power.FailNow act || is_called_by power.Ok act
    || is_ondemand act

-- init may still send the child a signal: the child must be stopped, and was not sent SIGKILL
abbrev pub may_be_signalled : Option Stop → Bool
may_be_signalled (Some Due) = true
may_be_signalled (Some (Termed time)) = true
may_be_signalled _ = false

-- the flags of a record are justified: `look` needs a child, `missed` needs a child that may still be sent a signal,
-- and `called` needs an entry that can be called
abbrev pub are_marks_consistent : SlotState → Bool
are_marks_consistent slot = (not slot.look || is_some slot.child) && (not slot.missed || may_be_signalled slot.stop)
    && (not slot.called || is_callable slot.table_act)

-- the times do not decrease
abbrev pub is_non_decreasing : List ℕ → Bool
is_non_decreasing [] = true
is_non_decreasing (time ∷ times) = list_all (λ later. nat_le time later) times && is_non_decreasing times

-- a hold ends at most five minutes from now, and its limiter has ten starts; there may be no hold
abbrev pub is_hold_of : ℕ → LimiterState → Option ℕ → Bool
is_hold_of now limiter None = true
is_hold_of now limiter (Some end) = (length limiter.starts == STARTS) && nat_le end (now + HOLD)

-- the limiter has at most ten starts, whose times do not decrease, and if it has a hold, the hold ends at most five
-- minutes from now and the limiter has ten starts
abbrev pub is_limit_kept : ℕ → LimiterState → Bool
is_limit_kept now limiter = nat_le (length limiter.starts) STARTS && is_non_decreasing limiter.starts
    && is_hold_of now limiter limiter.held

-- the limiter has no starts and no hold
abbrev pub is_unused : LimiterState → Bool
is_unused limiter = length limiter.starts == 0 && is_none limiter.held

-- the limiter obeys its rules (`is_limit_kept`) if the respawn limit applies to the record's entry, and is otherwise
-- unused
abbrev pub is_limiter_consistent : ℕ → SlotState → Bool
is_limiter_consistent now slot =
    if is_limited_record slot then is_limit_kept now slot.limiter else is_unused slot.limiter

-- a request for a level is pending only in a runlevel, and only for a different level
abbrev pub is_level_wish_valid : Option Stage → Option Goal → Bool
is_level_wish_valid stage None = true
is_level_wish_valid (Some (stage.Run level)) (Some wish) = not (same_level wish.level level)
is_level_wish_valid _ (Some wish) = false

-- in a runlevel, the goal is this level; in Boot, `booted` is set; in Sysinit and before it, `booted` is not set
abbrev pub is_goal_reached : Option Stage → Goal → Bool → Bool
is_goal_reached (Some (stage.Run level)) goal booted = same_level goal.level level
is_goal_reached (Some stage.Boot) goal booted = booted
is_goal_reached _ goal booted = not booted

-- the rules for the fields: the time is at most CLOCK_LIMIT, a pending request is for a different level, only a
-- runlevel is announced settled, and the goal is right for the stage
abbrev pub do_fields_obey : CoreFields → Bool
do_fields_obey fields = nat_le fields.time CLOCK_LIMIT && is_level_wish_valid fields.stage fields.level_wish
    && (not fields.announced || in_run fields.stage) && is_goal_reached fields.stage fields.goal fields.booted

-- the rules for each record: it has an entry or a child, the action of its child is known, its open order is allowed,
-- its stop, flags and limiter are consistent, and no start or signal in it is later than now
abbrev pub does_record_obey : Option Stage → List Entry → ℕ → SlotState → Bool
does_record_obey stage table now slot = has_cause slot && is_birth_known slot.child && is_order_allowed slot
    && is_stop_judged stage table slot && are_marks_consistent slot && is_limiter_consistent now slot
    && is_timely now slot

-- the rules for all records: no id has two, open starts are allowed and never follow an owed entry, no start is open
-- while a child is excluded, and each record obeys the rules for one record
abbrev pub do_records_obey : Option Stage → List Entry → ℕ → List SlotState → Bool
do_records_obey stage table now slots = are_distinct slots && are_starts_in stage table slots
    && are_starts_free slots && list_all (does_record_obey stage table now) slots

-- the fields and the records obey all rules
abbrev pub is_kept : CoreFields → List Entry → List SlotState → Bool
is_kept fields table slots = do_fields_obey fields && do_records_obey fields.stage table fields.time slots

-- the state of init is fit: its records are in record order, and it obeys all rules
pub record IsFit (c : CoreState) : Type 0 where
  pub in_order : IsInOrder c.table c.slots
  pub kept : is_kept c.fields c.table c.slots ≡ true
