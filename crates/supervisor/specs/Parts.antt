-- The effect of each part of a turn on init's host, log and core (init(8)).
use Rattle.std.specs.Prelude.{◌≡◌, ◌≤◌, ◌⊎◌, ◌||◌, ℕ, Bool, true, false, IsTrue, List, [], ◌∷◌, Option, Result, is_some}
use Rattle.supervisor.specs.Words.{Entry, Ended, entry_of, Handed, Goal, Step, Event, is_seconds, CoreState, with_step}
use Rattle.supervisor.specs.Words.{state_of, IsTextOf, LogState, Late, Clock, TakeBytes, Announce, HostCall, TextRead}
use Rattle.supervisor.specs.Words.{STEP_LIMIT, Point, is_last, is_outcome, is_announcement, may_announce}
use Rattle.supervisor.specs.Words.{NewCallsSatisfy}
use Rattle.supervisor.specs.Words.{AddsStamped, EdgeState, Kept, Made, calls_of, TracksPoint, Tracks, IfPossibleFrom}
use Rattle.supervisor.specs.Words.{Went, comes_back}
use Rattle.supervisor.specs.Words.{past_of, AreSteps, bytes_in, is_reread, is_room, is_step}
use Rattle.init_words.specs.declared.orders.Answer.{Answer}
use Rattle.init_words.specs.declared.orders.OrderKind.TheVariants as ask
use Rattle.initctl_frame.specs.Blocks.{PartialBlock}
use Rattle.trace_events.specs.declared.happenings.Handed.{Handed as HandOver}
use Rattle.trace_events.specs.declared.happenings.Handed.TheVariants as handed
use Rattle.trace_events.specs.declared.steps.Step.TheVariants as step
use Rattle.trace_events.specs.Agreement.{is_unreaped}
use Rattle.trace_events.specs.Due.{due, first}
use Rattle.core_model.specs.Headline.{is_recorded}
use Rattle.core_model.specs.Rules.{IsFit}
use Rattle.host_calls.specs.declared.calls.HostFault.{HostFault}
use Rattle.supervisor.specs.Fronts.{Fronts}

-- The calls have this shape, and lead from points that meet the condition `fitted` to points that meet the condition
-- `fit`. `Fronts` holds up to each call, if the answers so far were possible. At each call, the log had accepted
-- everything since `from`, or had failed. If the edge records its calls, these are the calls recorded between its two
-- states.
abbrev pub MadeCallsLeadFrom : {L : Type 0} → (Point → List Event) → (L → LogState) → Option (List (Made L))
    → Option (List (Made L)) → LogState → LogState → (List HostCall → Type 0) → (Goal → Point → Type 0)
    → (Goal → Point → Type 0) → Type 0
MadeCallsLeadFrom from state told now_told log now_log Shape fitted fit =
    NewCallsSatisfy told now_told
    (λ made_calls. Shape (calls_of made_calls) × IfPossibleFrom fitted (Went from fit log now_log) (calls_of made_calls)
    × Fronts from fitted log now_log (calls_of made_calls) × Kept state from fitted log made_calls)

-- between these states of an edge, whose log had received the whole trace before, calls were made that have this shape
-- and lead from points that meet `fitted` to points that meet `fit` (`MadeCallsLeadFrom`)
abbrev pub MadeCallsLead : {H L : Type 0} → (L → LogState) → EdgeState H L → EdgeState H L → (List HostCall → Type 0)
    → (Goal → Point → Type 0) → (Goal → Point → Type 0) → Type 0
MadeCallsLead state old new = MadeCallsLeadFrom past_of state old.told new.told (state old.log) (state new.log)

-- the answer is that the child ended
abbrev pub is_end : Answer → Bool
is_end (Ended status) = true
is_end _ = false

-- the only call was a reading of the clock
abbrev pub IsReading : List HostCall → Type 0
IsReading calls = (time : Result ℕ HostFault) × (calls ≡ Clock time ∷ [])

-- the only call asked for bytes, when the turn had taken `before` bytes, with room within the limits of a turn; it
-- returned `count` bytes, where a failure counts as 0 bytes
abbrev pub IsBytesCall : ℕ → ℕ → List HostCall → Type 0
IsBytesCall before count calls = (room : ℕ) × (taken : TextRead) × (calls ≡ TakeBytes room taken ∷ [])
    × (is_room room before ≡ true) × (bytes_in taken ≡ count)

-- the only call asked for a late answer, after `before` earlier calls for late answers; `last` is true if it was the
-- last one in the turn
abbrev pub IsLateCall : ℕ → Bool → List HostCall → Type 0
IsLateCall before last calls = (late : Option (List ℕ × Answer)) × (calls ≡ Late late ∷ [])
    × (last ≡ is_last late before)

-- the calls carry out one step that is not a reading of inittab
abbrev pub IsStep : List HostCall → Type 0
IsStep calls = is_step calls ≡ true

-- the calls carry out a reading of inittab
abbrev pub IsReread : Bool → List HostCall → Type 0
IsReread strict calls = is_reread strict calls ≡ true

-- the calls carry out one step, or there are none because nothing was due
abbrev pub IsStepUnlessIdle : Bool → Bool → List HostCall → Type 0
IsStepUnlessIdle strict true calls = calls ≡ []
IsStepUnlessIdle strict false calls = (is_step calls || is_reread strict calls) ≡ true

-- the calls carry out steps until nothing is due, or until the limit of steps in a turn is reached
pub record AreAllSteps (strict done : Bool) (calls : List HostCall) : Type 0 where
  pub count : ℕ
  pub step_calls : AreSteps strict count calls
  pub most : count ≤ STEP_LIMIT
  pub ended : IsTrue done ⊎ (count ≡ STEP_LIMIT)

-- The hand-over of a saved state has this outcome and leaves init's core unchanged: the text was taken over, or
-- rejected for the reason that `how` names. This holds if the core obeys the rules, the text represents its state, and
-- the host returned the text in a permitted way.
abbrev pub HandOverYields : HandOver → List ℕ → TextRead → CoreState → CoreState → Type 0
HandOverYields how text back old new = IsFit old → IsTextOf text (state_of old)
    → IsTrue (comes_back old.fields.generation text back) → (new ≡ old) × IsTrue (is_outcome how text back)

-- unless the text was taken over, init announced the outcome of the hand-over, with this log at that moment
abbrev pub AnnouncesRefusal : {L : Type 0} → HandOver → Option (List (Made L)) → Option (List (Made L)) → L → Type 0
AnnouncesRefusal handed.Whole told now_told log = now_told ≡ told
AnnouncesRefusal how told now_told log = AddsStamped told now_told (Announce (Handed how)) log

-- the step is Idle: nothing is due
abbrev pub is_idle : Step → Bool
is_idle step.Idle = true
is_idle _ = false

-- the condition holds, and if `done` is true, nothing is due
abbrev pub FitsAndRestsIf : Bool → (Goal → Point → Type 0) → Goal → Point → Type 0
FitsAndRestsIf done fit goal p = fit goal p × (IsTrue done → first (due goal p.past) ≡ step.Idle)

-- Init carries out the step by announcing its happening: the step adds exactly that happening to a trace, the happening
-- can be announced, and it may be announced when the step is the first due step.
pub record AnnouncesStep (made : Step) (happening : Event) : Type 0 where
  pub step : (past : List Event) → with_step made past ≡ happening ∷ past
  pub said : is_announcement happening ≡ true
  pub position : (goal : Goal) (earlier : List HostCall) (past : List Event) → first (due goal past) ≡ made
      → may_announce goal happening earlier past ≡ true

-- The condition after a turn: init's core tracks the trace, and the reader of requests has read the bytes of an
-- incomplete block; the unreaped children of the trace are the children in the records, corrected for the answers that
-- init has not learned of; and if the turn was done, nothing is due.
pub record HoldsAfterTurn (done : Bool) (core : CoreState) (blocks : PartialBlock) (goal : Goal) (p : Point) : Type 0
  where
    pub at : TracksPoint core blocks goal p
    pub children : (id : List ℕ) (n : ℕ) → is_unreaped id n p.past ≡ is_recorded id n core p.past
    pub rests : IsTrue done → first (due goal p.past) ≡ step.Idle

-- The condition after all turns: init's core tracks the trace, and the unreaped children of the trace are the children
-- in the records, corrected for the answers that init has not learned of; the reader of requests may have read
-- anything.
abbrev pub HoldsAfterTurns : CoreState → Goal → Point → Type 0
HoldsAfterTurns core goal p =
    Tracks core goal p × ((id : List ℕ) (n : ℕ) → is_unreaped id n p.past ≡ is_recorded id n core p.past)

-- the core tracks the trace, and no block of requests is incomplete
abbrev pub TracksAtBlockStart : CoreState → Goal → Point → Type 0
TracksAtBlockStart core goal p = Tracks core goal p × (p.over ≡ [])

-- if the step is a start, its id is in the table
abbrev pub is_listed : List Entry → Step → Bool
is_listed table (step.Order id ask.Start) = is_some (entry_of id table)
is_listed table _ = true

-- if the step has a grace period, it is at most 3,600 seconds
abbrev pub is_short_step : Step → Bool
is_short_step (step.Enter stage grace) = is_seconds grace
is_short_step _ = true
