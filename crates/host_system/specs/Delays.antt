-- Delays of starts (`--respawn-delay`): how many seconds a child waits before it runs its process.
--
-- A start is delayed if it follows the last start of its id too soon: by one second, then by twice the last delay, up
-- to the longest delay. It is not delayed if at least the longest delay has passed since the last child began to run,
-- if that child was sent a signal, or if init has entered a stage since.
use Rattle.std.specs.Prelude.{◌≡◌, ◌<◌, ℕ, Bool, true, false, ◌+◌, ◌-◌, ◌*◌, ◌&&◌, min, max, nat_lt, if◌then◌else◌}
use Rattle.std.specs.Prelude.{List, [], ◌∷◌, Option, Some, None, IsSome, Ok}
use Rattle.std.specs.Map.{lookup}
use Rattle.indexmap.specs.IndexMap.{spare}
use Rattle.init_words.specs.Ids.{same_id}
use Rattle.init_words.specs.declared.orders.Answer.TheVariants.{Born}
use Rattle.trace_events.specs.Event.{Event}
use Rattle.trace_events.specs.declared.happenings.Happening.TheVariants.{Enter}
use Rattle.host_calls.specs.declared.calls.Call.TheVariants.{Start, Signal, Clock, Announce}
use Rattle.host_calls.specs.declared.calls.Reply.{Reply}
use Rattle.host_calls.specs.declared.calls.Reply.TheVariants.{Now}
use Rattle.host_calls.specs.Calls.{HostCall}
use Rattle.host_system.specs.declared.delays.Delays.{Delays}
use Rattle.host_system.specs.declared.delays.LastStart.{LastStart}

-- the time of the last successful reading of the clock, in seconds; 0 if there was none; the calls are given newest
-- first
abbrev pub time_of : List HostCall → ℕ
time_of [] = 0
time_of (Clock (Ok time) ∷ calls) = time
time_of (_ ∷ calls) = time_of calls

-- The delay of a start at this time, given the last start that counts toward delays. If starts are delayed at all, it
-- is twice the last delay, but at least one second and at most the longest delay. It is zero if there is no last start,
-- or if at least the longest delay has passed since the delay of the last start was over.
abbrev pub delay_after : Option ℕ → ℕ → Option LastStart → ℕ
delay_after (Some longest) time (Some last) =
    if nat_lt (time - last.at) (last.delay + longest) then min longest (max 1 (2 * last.delay)) else 0
delay_after _ time _ = 0

-- the child was born
abbrev pub is_born : Reply → Bool
is_born (Now (Born number)) = true
is_born _ = false

-- init enters a stage
abbrev pub is_entering : Event → Bool
is_entering (Enter stage grace) = true
is_entering _ = false

-- the last start of the id, if it counts toward delays: its child was born and sent no signal, and no stage was entered
-- since
abbrev pub last_start : Option ℕ → List ℕ → List HostCall → Option LastStart
last_start longest id [] = None
last_start longest id (Start other text reply ∷ calls) =
    let time = time_of calls in
    if is_born reply && same_id other id
    then Some (record { at = time; delay = delay_after longest time (last_start longest id calls) })
    else last_start longest id calls
last_start longest id (Signal other signal reply ∷ calls) =
    if same_id other id then None else last_start longest id calls
last_start longest id (Announce happening ∷ calls) =
    if is_entering happening then None else last_start longest id calls
last_start longest id (_ ∷ calls) = last_start longest id calls

-- the delay in seconds of the next start of the id, given the longest delay, if starts are delayed, and the previous
-- calls, newest first
abbrev pub start_delay : Option ℕ → List ℕ → List HostCall → ℕ
start_delay longest id calls = delay_after longest (time_of calls) (last_start longest id calls)

-- The state on which delays depend:
-- - `longest`: the longest delay in seconds, if starts are delayed
-- - `time`: the time of the last reading of the clock, in seconds
-- - `starts`: for each id whose last start counts toward delays, the id and that start
pub record DelayState : Type 0 where
  pub longest : Option ℕ
  pub time : ℕ
  pub starts : List (List ℕ × LastStart)

abbrev pub delay_state : {A : Type 0} → Delays A → DelayState
delay_state delays = record {
  longest = delays.longest;
  time = delays.time;
  starts = delays.starts.entries;
}

-- if starts are recorded, one more can be recorded without allocating memory
abbrev pub HasRoom : {A : Type 0} → Delays A → Type 0
HasRoom delays = IsSome delays.longest → 0 < spare delays.starts

-- the delays have this state after the calls; starts are recorded only if starts are delayed
abbrev pub AreDelaysAfter : DelayState → List HostCall → Type 0
AreDelaysAfter delays calls = (delays.time ≡ time_of calls)
    × (IsSome delays.longest
    → (id : List ℕ) → lookup (same_id id) delays.starts ≡ last_start delays.longest id calls)
