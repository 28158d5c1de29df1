-- The step that init takes, as a function of its state (init(8)).
use Rattle.std.specs.Prelude.{ℕ, Bool, false, not, ◌&&◌, ◌||◌, ◌+◌, if◌then◌else◌, List, [], ◌∷◌, zip, nat_le, Option}
use Rattle.std.specs.Prelude.{Some, None, is_some, is_none}
use Rattle.std.specs.List.{list_any, list_all}
use Rattle.core_model.specs.Words.{Entry, Level, S, At, Stage, Start, Look, Term, Kill, wanted_by, is_limited}
use Rattle.core_model.specs.Words.{served_by, starts_of, waited_of, same_level, names, may_of, is_held, Step, Order}
use Rattle.core_model.specs.Words.{Settle, Reread, Reexec, Idle, Goal, is_order, in_run, Stop, Due, Termed, SlotState}
use Rattle.core_model.specs.Words.{allows, is_quiet}
use Rattle.init_words.specs.declared.stages.Stage.TheVariants as stage
use Rattle.trace_events.specs.declared.steps.Step.TheVariants.{Enter, Hold}
use Rattle.trace_events.specs.CallSets.{has_news, first_pending_step}
use Rattle.core_model.specs.State.{CoreState}

-- the first step if there is one, otherwise the later one
abbrev pub or_else : Option Step → Option Step → Option Step
or_else None later = later
or_else (Some step) later = Some step

-- the step if there is one, otherwise Idle
abbrev pub or_idle : Option Step → Step
or_idle None = Idle
or_idle (Some step) = step

-- enter the requested level, or Boot if the level is not S and Boot was never entered
abbrev pub level_step : Bool → Option Goal → Option Step
level_step booted None = None
level_step booted (Some wish) =
    let first_way = not (same_level wish.level S) && not booted in
    Some (Enter (if first_way then stage.Boot else stage.Run wish.level) wish.grace)

-- in a runlevel, call the entries for the first pending power event or letter
abbrev pub news_step : Stage → CoreState → Option Step
news_step stage c = if in_run (Some stage) then first_pending_step c.fields.pending else None

-- the step for the first pending request
abbrev pub wished_step : Stage → CoreState → Option Step
wished_step stage c =
    if c.fields.reexec then Some Reexec else if c.fields.reread then Some Reread
    else or_else (level_step c.fields.booted c.fields.level_wish) (news_step stage c)

-- the step for the first pending request, if no start and no signal is open
abbrev pub wish_step : Stage → CoreState → Option Step
wish_step stage c = if is_quiet c.slots then wished_step stage c else None

-- power events or letters are pending, and count as pending requests because the stage is a runlevel
abbrev pub counts_news : Stage → CoreState → Bool
counts_news stage c = in_run (Some stage) && has_news c.fields.pending

-- a request is pending
abbrev pub stands : Stage → CoreState → Bool
stands stage c = c.fields.reexec || c.fields.reread || is_some c.fields.level_wish || counts_news stage c

-- the signal due to an excluded child, given the progress of stopping it: TERM, then KILL after the grace period
abbrev pub signal_step : ℕ → ℕ → List ℕ → Option Stop → Option Step
signal_step grace now id (Some Due) = Some (Order id Term)
signal_step grace now id (Some (Termed time)) = if nat_le (time + grace) now then Some (Order id Kill) else None
signal_step grace now id _ = None

-- the signal due to the record's child, if no order is open and the last signal to it did not fail
abbrev pub stop_step : ℕ → ℕ → SlotState → Option Step
stop_step grace now slot =
    if is_some slot.child && is_none slot.order && not slot.missed then signal_step grace now slot.id slot.stop
    else None

-- the first signal that is due, in record order
abbrev pub stop_among : ℕ → ℕ → List SlotState → Option Step
stop_among grace now [] = None
stop_among grace now (slot ∷ slots) = or_else (stop_step grace now slot) (stop_among grace now slots)

-- some child is excluded, so its record marks it for stopping
abbrev pub has_excluded : List SlotState → Bool
has_excluded slots = list_any (λ (slot : SlotState). is_some slot.stop) slots

-- the entry with this record is wanted in the stage: init starts it as soon as it can
abbrev pub is_wanted_record : Stage → Entry → SlotState → Bool
is_wanted_record stage e slot =
    starts_of e stage
    && wanted_by e.act (is_none slot.child && not (is_order Start slot.order)) (not slot.asked) slot.called

-- the entry with this record is owed: init waits for it, and it is wanted, being started, or running
abbrev pub is_owed_record : Stage → Entry → SlotState → Bool
is_owed_record stage e slot =
    waited_of e && (is_some slot.child || is_order Start slot.order || is_wanted_record stage e slot)

-- start the entry; if the respawn limit applies to it, skip it while it is held, and hold it if the limiter does not
-- allow a start
abbrev pub limited_step : ℕ → Entry → SlotState → Option Step
limited_step now e slot =
    if is_limited e.act then
    (if is_held slot.limiter.held now then None
    else Some (if allows (may_of slot.limiter now) then Order e.id Start else Hold e.id))
    else Some (Order e.id Start)

-- the entry with this record can be started: it is wanted, and has no child and no open order
abbrev pub can_start_record : Stage → Entry → SlotState → Bool
can_start_record stage e slot = is_wanted_record stage e slot && is_none slot.child && is_none slot.order

-- the start or the hold of the entry, if it can be started
abbrev pub start_step : Stage → ℕ → Entry → SlotState → Option Step
start_step stage now e slot = if can_start_record stage e slot then limited_step now e slot else None

-- the first start or hold among these entries, up to and including the first owed one
abbrev pub start_along : Stage → ℕ → List (Entry × SlotState) → Option Step
start_along stage now [] = None
start_along stage now (p ∷ ps) =
    or_else (start_step stage now p.0 p.1) (if is_owed_record stage p.0 p.1 then None else start_along stage now ps)

-- the first start or hold in table order, up to and including the first owed entry
abbrev pub start_among : Stage → ℕ → List Entry → List SlotState → Option Step
start_among stage now table slots = start_along stage now (zip table slots)

-- nothing is left to do for the entry in Sysinit or Boot: it is not wanted, and init does not wait for its child
abbrev pub is_done_record : Stage → Entry → SlotState → Bool
is_done_record stage e slot = not (is_wanted_record stage e slot) && not (waited_of e && is_some slot.child)

-- nothing is left to do for any entry
abbrev pub all_done : Stage → List Entry → List SlotState → Bool
all_done stage table slots = list_all (λ (p : Entry × SlotState). is_done_record stage p.0 p.1) (zip table slots)

-- Sysinit or Boot is over: no start and no signal is open, and nothing is left to do for any entry
abbrev pub is_over_among : Stage → List Entry → List SlotState → Bool
is_over_among stage table slots = is_quiet slots && all_done stage table slots

-- the stage that comes after Sysinit or Boot
abbrev pub next_stage : Stage → Level → Option Stage
next_stage stage.Sysinit goal = Some (if same_level goal S then stage.Run S else stage.Boot)
next_stage stage.Boot goal = Some (stage.Run goal)
next_stage (stage.Run level) goal = None

-- enter the stage, if there is one
abbrev pub enter_step : Option Stage → ℕ → Option Step
enter_step None grace = None
enter_step (Some stage) grace = Some (Enter stage grace)

-- if the stage is Sysinit or Boot and is over, enter the next one
abbrev pub stage_step : Stage → Goal → List Entry → List SlotState → Option Step
stage_step stage goal table slots =
    if is_over_among stage table slots then enter_step (next_stage stage goal.level) goal.grace else None

-- no order is open
abbrev pub is_idle : List SlotState → Bool
is_idle slots = not (list_any (λ (slot : SlotState). is_some slot.order) slots)

-- the entry with this record does not keep the level from being settled
abbrev pub is_served_record : Level → ℕ → Entry → SlotState → Bool
is_served_record level now e slot = not (is_owed_record (stage.Run level) e slot)
    && (not (names (At level) e.levels.items)
    || served_by e.act slot.asked (is_some slot.child || is_held slot.limiter.held now))

-- no entry keeps the level from being settled
abbrev pub all_served : Level → ℕ → List Entry → List SlotState → Bool
all_served level now table slots =
    list_all (λ (p : Entry × SlotState). is_served_record level now p.0 p.1) (zip table slots)

-- in a runlevel, announce once that it is settled
abbrev pub settle_step : Stage → Bool → ℕ → List Entry → List SlotState → Option Step
settle_step (stage.Run level) announced now table slots =
    if not announced && is_idle slots && all_served level now table slots then Some (Settle level) else None
settle_step _ announced now table slots = None

-- a look at the child of the record is due, and no order is open
abbrev pub can_look_record : SlotState → Bool
can_look_record slot = is_some slot.child && is_none slot.order && slot.look

-- the first look that is due, in record order
abbrev pub look_among : List SlotState → Option Step
look_among [] = None
look_among (slot ∷ slots) = if can_look_record slot then Some (Order slot.id Look) else look_among slots

-- if no child is excluded: a start or a hold, the next stage, or the announcement that the level is settled
abbrev pub calm_step : Stage → CoreState → Option Step
calm_step stage c =
    or_else (start_among stage c.fields.time c.table c.slots)
    (or_else (stage_step stage c.fields.goal c.table c.slots)
    (settle_step stage c.fields.announced c.fields.time c.table c.slots))

-- if no request is pending: a signal, or, if no child is excluded, a start, a hold, the next stage or an announcement
abbrev pub work_step : Stage → CoreState → Option Step
work_step stage c =
    if stands stage c then None
    else or_else (stop_among c.fields.grace c.fields.time c.slots)
    (if has_excluded c.slots then None else calm_step stage c)

-- before the first stage, enter Sysinit if no start and no signal is open
abbrev pub first_step : CoreState → Option Step
first_step c = if is_quiet c.slots then Some (Enter stage.Sysinit c.fields.goal.grace) else None

-- the step in this stage: for a pending request, otherwise a work step, otherwise a look, otherwise Idle
abbrev pub decide_in : Option Stage → CoreState → Step
decide_in None c = or_idle (first_step c)
decide_in (Some stage) c = or_idle (or_else (wish_step stage c) (or_else (work_step stage c) (look_among c.slots)))

-- the step that init takes
abbrev pub decide : CoreState → Step
decide c = decide_in c.fields.stage c

-- the record has a child or an open order, or its entry is held
abbrev pub is_busy_record : ℕ → SlotState → Bool
is_busy_record now slot = is_some slot.child || is_some slot.order || is_held slot.limiter.held now

-- init is drained: it is in a runlevel and has announced that the level is settled, no request is pending, and no
-- record is busy
abbrev pub is_drained_in : Option Stage → CoreState → Bool
is_drained_in (Some (stage.Run level)) c =
    c.fields.announced && not (stands (stage.Run level) c) && not (list_any (is_busy_record c.fields.time) c.slots)
is_drained_in _ c = false

abbrev pub is_drained : CoreState → Bool
is_drained c = is_drained_in c.fields.stage c
