-- When a core fits a trace: its state is the one that the definitions compute from the trace.
use Rattle.std.specs.Prelude.{◌≡◌, ℕ, Bool, true, false, ◌&&◌, ◌+◌, IsTrue, if◌then◌else◌, List, [], ◌∷◌, map, find}
use Rattle.std.specs.Prelude.{reverse, Option, Some, None}
use Rattle.std.specs.List.{list_any}
use Rattle.std.specs.Option.{option_map, option_map_or}
use Rattle.core_model.specs.Words.{HOLD, LimiterState, unused, last_starts, Entry, Answer, Kill, is_limited, same_id}
use Rattle.core_model.specs.Words.{entry_of, act_of, Step, Goal, Event, Child, is_child_of, has_child, open_of}
use Rattle.core_model.specs.Words.{table_of}
use Rattle.core_model.specs.Words.{stage_of, grace_of, time_of, known_children, is_asked, is_called, is_order, in_run}
use Rattle.core_model.specs.Words.{goal_of, wants_reexec, wants_reread, level_wish, was_booted, is_sound, KnownChild}
use Rattle.core_model.specs.Words.{Stop, Due, Termed, Killed, SlotState}
use Rattle.init_words.specs.declared.children.Status.{Status}
use Rattle.init_words.specs.declared.orders.Answer.TheVariants.{Ended}
use Rattle.trace_events.specs.declared.happenings.Happening.TheVariants as happened
use Rattle.trace_events.specs.declared.steps.Step.TheVariants as step
use Rattle.trace_events.specs.Answered.{answered_of}
use Rattle.trace_events.specs.Wanted.{is_excluded}
use Rattle.trace_events.specs.Spells.{Signal, spell_hits, is_missed}
use Rattle.trace_events.specs.Timing.{start_times, hold_times}
use Rattle.trace_events.specs.Due.{record_ids, wants_look, is_announced}
use Rattle.trace_events.specs.CallSets.{pending_calls}
use Rattle.core_model.specs.declared.parts.CoreFields.{CoreFields}
use Rattle.core_model.specs.State.{CoreState}

-- the known child of an id
abbrev pub child_known : List ℕ → List Event → Option Child
child_known id past = find (is_child_of id) (known_children past)

-- a child of the trace, in the form used in a record
abbrev pub living : Child → KnownChild
living child = record { number = child.number; act = child.act }

-- the known child of an id, in the form used in a record
abbrev pub known_child : List ℕ → List Event → Option KnownChild
known_child id past = option_map living (child_known id past)

-- the progress of stopping an excluded child, given the signals that init learned of since the child became excluded,
-- newest first
abbrev pub stop_after : List Signal → Stop
stop_after [] = Due
stop_after (signal ∷ earlier) = if is_order Kill signal.order then Killed signal.time else Termed signal.time

-- the progress of stopping a child; none if it is not excluded
abbrev pub stop_of_child : List Event → Child → Option Stop
stop_of_child past child = if is_excluded past child then Some (stop_after (spell_hits child past)) else None

-- the progress of stopping the child, if there is one
abbrev pub stop_known : List Event → Option Child → Option Stop
stop_known past None = None
stop_known past (Some child) = stop_of_child past child

-- the progress of stopping the known child of an id
abbrev pub stop_of : List ℕ → List Event → Option Stop
stop_of id past = stop_known past (child_known id past)

-- the id has a known child, and a look at it is due, because none was ordered since a round began
abbrev pub is_to_look : List ℕ → List Event → Bool
is_to_look id past = has_child id (known_children past) && wants_look id past

-- a signal to the known child of the id failed since the child became excluded, and no round has begun since that
-- signal
abbrev pub was_missed : List ℕ → List Event → Bool
was_missed id past = option_map_or (λ child. is_missed child past) (child_known id past) false

-- the end of the latest hold, given the times at which the holds began, newest first
abbrev pub last_hold_end : List ℕ → Option ℕ
last_hold_end [] = None
last_hold_end (began ∷ earlier) = Some (began + HOLD)

-- the limiter of an entry, from the times of its starts and holds, newest first; unused if the respawn limit does not
-- apply
abbrev pub limiter_by : Bool → List ℕ → List ℕ → LimiterState
limiter_by true starts holds = record { starts = last_starts (reverse starts); held = last_hold_end holds }
limiter_by false starts holds = unused

-- the limiter of an entry
abbrev pub limiter_of : Entry → List Event → LimiterState
limiter_of e past = limiter_by (is_limited e.act) (start_times e.id past) (hold_times e.id past)

-- the id has an entry in the table, and init ordered its start
abbrev pub asked_of : List ℕ → List Event → Bool
asked_of id past = option_map_or (λ (e : Entry). is_asked e.id past) (entry_of id (table_of past)) false

-- the id has an entry in the table, and it is called
abbrev pub called_of : List ℕ → List Event → Bool
called_of id past = option_map_or (λ e. is_called e past) (entry_of id (table_of past)) false

-- the limiter of the id's entry; unused if the id has no entry
abbrev pub limits_of : List ℕ → List Event → LimiterState
limits_of id past = option_map_or (λ e. limiter_of e past) (entry_of id (table_of past)) unused

-- how the last child of each id ended
abbrev pub LastStatuses : Type 0
LastStatuses = List ℕ → Option Status

-- the last status of an id after the answer for it, if there is one: only the end of a child changes the status
abbrev pub last_status_after : Option Answer → Option Status → Option Status
last_status_after (Some (Ended status)) before = Some status
last_status_after _ before = before

-- the last statuses after a happening: a Told may set one, and a new table keeps the statuses of ids that had a record
abbrev pub last_statuses_after : Event → List Event → LastStatuses → LastStatuses
last_statuses_after (happened.NewTable table) past lasts =
    λ id. if list_any (same_id id) (record_ids past) then lasts id else None
last_statuses_after (happened.Told i) past lasts =
    λ id. if same_id id i then last_status_after (answered_of id past) (lasts id) else lasts id
last_statuses_after _ past lasts = lasts

-- how the last child of each id ended, according to the answers told to init
abbrev pub last_statuses_of : List Event → LastStatuses
last_statuses_of [] = λ id. None
last_statuses_of (happening ∷ past) = last_statuses_after happening past (last_statuses_of past)

-- the record of an id computed from the trace, with this last status
abbrev pub record_of : LastStatuses → List Event → List ℕ → SlotState
record_of lasts past id = record {
  id = id;
  table_act = act_of id (table_of past);
  child = known_child id past;
  order = open_of id past;
  stop = stop_of id past;
  asked = asked_of id past;
  called = called_of id past;
  look = is_to_look id past;
  missed = was_missed id past;
  limiter = limits_of id past;
  last = lasts id;
}

-- all records computed from the trace, in record order
abbrev pub records_of : LastStatuses → List Event → List SlotState
records_of lasts past = map (record_of lasts past) (record_ids past)

-- the fields of init computed from the trace, with this goal and this generation
abbrev pub fields_of : List Event → Goal → ℕ → CoreFields
fields_of past goal generation = record {
  generation = generation;
  time = time_of past;
  stage = stage_of past;
  grace = grace_of past;
  goal = goal;
  booted = was_booted past;
  announced = is_announced past;
  reread = wants_reread past;
  reexec = wants_reexec past;
  level_wish = level_wish past;
  pending = pending_calls past;
}

-- the state of init computed from the trace, with these last statuses, this goal and this generation
abbrev pub core_read : LastStatuses → List Event → Goal → ℕ → CoreState
core_read lasts past goal generation = record {
  table = table_of past;
  slots = records_of lasts past;
  fields = fields_of past goal generation;
}

-- the core fits the initial goal and the trace: its state is the one computed from the trace with some last statuses;
-- and until a runlevel is entered, its goal is the goal computed from the trace
pub record Fits (core : CoreState) (opening : Goal) (past : List Event) : Type 0 where
  pub lasts : LastStatuses
  pub kept : core ≡ core_read lasts past core.fields.goal core.fields.generation
  pub goal : in_run (stage_of past) ≡ false → core.fields.goal ≡ goal_of opening past

-- the core with these last statuses
abbrev pub with_last_statuses : LastStatuses → CoreState → CoreState
with_last_statuses lasts core =
    record core { slots = map (λ (slot : SlotState). record slot { last = lasts slot.id }) core.slots }

-- the last statuses in the core's records are the ones computed from the trace
abbrev pub HasLastStatuses : CoreState → List Event → Type 0
HasLastStatuses core past =
    map (λ (slot : SlotState). slot.last) core.slots ≡ map (last_statuses_of past) (record_ids past)

-- the core fits the trace, and so do its last statuses
abbrev pub FitsWithLastStatuses : CoreState → Goal → List Event → Type 0
FitsWithLastStatuses core opening past = Fits core opening past × HasLastStatuses core past

-- the new core fits the longer trace; and if the last statuses of the old core fit the old trace, those of the new core
-- fit the longer one
abbrev pub FitsExtendedTrace : CoreState → CoreState → Goal → List Event → List Event → Type 0
FitsExtendedTrace old new goal past next = Fits new goal next × (HasLastStatuses old past → HasLastStatuses new next)

-- the trace after a step: the step adds its happening, except that reading inittab, a re-execution and Idle add none
abbrev pub with_step : Step → List Event → List Event
with_step (step.Enter stage grace) past = happened.Enter stage grace ∷ past
with_step (step.Call letter) past = happened.Call letter ∷ past
with_step (step.Power kind) past = happened.Power kind ∷ past
with_step (step.Order id ask) past = happened.Asked id ask ∷ past
with_step (step.Hold id) past = happened.Hold id ∷ past
with_step (step.Settle level) past = happened.Settle level ∷ past
with_step _ past = past

-- the property holds for each initial goal and each sound trace that the core fits
abbrev pub ForAllFittedTraces : CoreState → (Goal → List Event → Type 0) → Type 0
ForAllFittedTraces core Holds =
    (goal : Goal) (past : List Event) → IsTrue (is_sound goal past) → Fits core goal past → Holds goal past

-- the happening is an act of the system on an order, or a death
abbrev pub is_act : Event → Bool
is_act (happened.Birth id n) = true
is_act (happened.NoBirth id) = true
is_act (happened.Death n) = true
is_act (happened.Reaped id n status) = true
is_act (happened.Still id) = true
is_act (happened.NoLook id) = true
is_act (happened.Hit id) = true
is_act (happened.Miss id) = true
is_act _ = false
