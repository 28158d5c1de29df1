-- The state of init after each of its steps, and after each answer, request or clock reading (init(8), telinit(8)).
use Rattle.std.specs.Prelude.{ℕ, Bool, true, false, ◌&&◌, ◌||◌, ◌+◌, if◌then◌else◌, List, map, max, min, Option, Some}
use Rattle.std.specs.Prelude.{None}
use Rattle.std.specs.List.{list_any}
use Rattle.core_model.specs.Words.{Entry, OnCall, Stage, Answer, is_called_by, is_ondemand, same_level, names, has_id}
use Rattle.core_model.specs.Words.{CLOCK_LIMIT, Step, Call, Power, Order, Settle, Goal, starts_in, SlotState}
use Rattle.core_model.specs.Words.{after_order, after_hold, after_call, after_enter, after_nudge, after_judge}
use Rattle.init_words.specs.declared.stages.Stage.TheVariants as stage
use Rattle.initctl_frame.specs.declared.requests.HeardRequest.{HeardRequest}
use Rattle.initctl_frame.specs.declared.requests.HeardRequest.TheVariants as got
use Rattle.trace_events.specs.declared.steps.Step.TheVariants.{Enter, Hold}
use Rattle.child_table.specs.Lists as lists
use Rattle.child_table.specs.Adopting as adopting
use Rattle.core_model.specs.declared.parts.CoreFields.{CoreFields}
use Rattle.trace_events.specs.CallSets.{with_kind, with_call}
use Rattle.core_model.specs.State.{CoreState}

abbrev pub is_boot : Stage → Bool
is_boot stage.Boot = true
is_boot _ = false

-- the goal after init enters a stage: the requested level if there is one, otherwise unchanged
abbrev pub wished : Option Goal → Goal → Goal
wished None goal = goal
wished (Some wish) goal = wish

-- the power event or letter of the step names the entry, which starts in the stage
abbrev pub is_named : Step → Option Stage → Entry → Bool
is_named (Power kind) stage e = is_called_by kind e.act && starts_in e stage
is_named (Call letter) stage e = is_ondemand e.act && names (OnCall letter) e.levels.items && starts_in e stage
is_named _ stage e = false

-- the record, marked as called if the condition holds
abbrev pub called_if : Bool → SlotState → SlotState
called_if true slot = after_call slot
called_if false slot = slot

-- the records after the entries that pass the test are called
abbrev pub with_called : (Entry → Bool) → List Entry → List SlotState → List SlotState
with_called named table slots =
    map (λ (slot : SlotState). called_if (list_any (λ e. has_id slot.id e && named e) table) slot) slots

-- The state after a step. Entering a stage clears the starts, calls and holds, judges the children by the stage, and
-- makes a pending request for a level the goal. A call marks the entries that it names, and is no longer pending. An
-- order or a hold changes the record of its id. Reading inittab and re-execution change nothing until their results
-- arrive; Idle changes nothing.
abbrev pub after_step : Step → CoreState → CoreState
after_step (Enter stage grace) c = record c {
  slots = map (after_judge c.table stage) (map after_enter c.slots);
  fields = record c.fields {
    stage = Some stage;
    grace = grace;
    goal = wished c.fields.level_wish c.fields.goal;
    level_wish = None;
    booted = is_boot stage || c.fields.booted;
    announced = false;
  };
}
after_step (Power kind) c = record c {
  slots = with_called (is_named (Power kind) c.fields.stage) c.table c.slots;
  fields = record c.fields { pending = with_kind kind false c.fields.pending };
}
after_step (Call letter) c = record c {
  slots = with_called (is_named (Call letter) c.fields.stage) c.table c.slots;
  fields = record c.fields { pending = with_call letter false c.fields.pending };
}
after_step (Order id ask) c = record c { slots = lists.with_changed id (after_order ask c.fields.time) c.slots }
after_step (Hold id) c = record c { slots = lists.with_changed id (after_hold c.fields.time) c.slots }
after_step (Settle level) c = record c { fields = record c.fields { announced = true } }
after_step _ c = c

-- the state after a clock reading, which is capped at CLOCK_LIMIT; a reading before the current time changes nothing
abbrev pub after_clock : ℕ → CoreState → CoreState
after_clock reading c = record c { fields = record c.fields { time = max (min reading CLOCK_LIMIT) c.fields.time } }

-- the state after a round begins
abbrev pub after_round : CoreState → CoreState
after_round c = record c { slots = map after_nudge c.slots }

-- the state after init receives an answer
abbrev pub after_answer_to : List ℕ → Answer → CoreState → CoreState
after_answer_to id answer c = record c { slots = lists.after_answer_to id answer c.fields.time c.slots }

-- the fields after a request for a level: in that runlevel, it drops a pending request for another level; in another
-- runlevel, it becomes the pending request; in any other stage, it becomes the goal
abbrev pub fields_after_level : Option Stage → Goal → CoreFields → CoreFields
fields_after_level (Some (stage.Run now)) wish fields =
    if same_level wish.level now then record fields { level_wish = None }
    else record fields { level_wish = Some wish; reread = true }
fields_after_level _ wish fields = record fields { goal = wish; reread = true }

-- the fields after a request
abbrev pub fields_after_request : HeardRequest → CoreFields → CoreFields
fields_after_request (got.Level level grace) fields =
    fields_after_level fields.stage (record { level = level; grace = grace }) fields
fields_after_request (got.Call letter) fields = record fields { pending = with_call letter true fields.pending }
fields_after_request got.Reload fields = record fields { reread = true }
fields_after_request got.Reexec fields = record fields { reexec = true }
fields_after_request (got.Power kind) fields = record fields { pending = with_kind kind true fields.pending }
fields_after_request (got.Nothing cause) fields = fields

-- the state after a request
abbrev pub after_got : HeardRequest → CoreState → CoreState
after_got request c = record c { fields = fields_after_request request c.fields }

-- the records after the stage, if there is one, decides which of their children are excluded
abbrev pub judged_in : Option Stage → List Entry → List SlotState → List SlotState
judged_in None table slots = slots
judged_in (Some stage) table slots = map (after_judge table stage) slots

-- the state after init adopts another table
abbrev pub after_adopt : List Entry → CoreState → CoreState
after_adopt table c = record c {
  table = table;
  slots = judged_in c.fields.stage table (adopting.after_adopt table c.slots);
  fields = record c.fields { announced = false; reread = false };
}

-- the state after init fails to read inittab
abbrev pub after_not_read : CoreState → CoreState
after_not_read c = record c { fields = record c.fields { reread = false } }

-- the state after a hand-over fails and the old init continues
abbrev pub after_handed : CoreState → CoreState
after_handed c = record c { fields = record c.fields { reexec = false } }

-- the state that init hands over to the next init
abbrev pub after_handed_on : CoreState → CoreState
after_handed_on c = record c { fields = record c.fields { reexec = false; generation = c.fields.generation + 1 } }
