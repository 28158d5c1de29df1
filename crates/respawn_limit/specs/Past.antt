-- The history of a limiter as a list of events, newest first, and the laws that hold for every such history.
use Rattle.std.specs.Prelude.{◌≡◌, ℕ, ◌+◌, ◌≤◌, Bool, true, false, ◌&&◌, IsTrue, List, [], ◌∷◌, ◌++◌, length, nat_le}
use Rattle.std.specs.Prelude.{Option, Some, None}
use Rattle.std.specs.List.{list_all}
use Rattle.std.specs.List.Sorted.{IsNonDecreasing}
use Rattle.respawn_limit.specs.declared.TheConstants.{HOLD, STARTS, WINDOW}
use Rattle.respawn_limit.specs.declared.May.{May}
use Rattle.respawn_limit.specs.declared.May.TheVariants.{Yes, HoldUntil}
use Rattle.respawn_limit.specs.State.{LimiterState}
use Rattle.respawn_limit.specs.Window.{answer, last_starts}

-- a start was noted or a hold began, at a time in seconds, or the limiter was cleared
pub data Event : Type 0 where
  Noted : ℕ → Event
  HeldAt : ℕ → Event
  Cleared : Event

-- the times of all starts noted since the last clear, oldest first
abbrev pub times_noted : List Event → List ℕ
times_noted [] = []
times_noted (Noted time ∷ past) = times_noted past ++ time ∷ []
times_noted (HeldAt time ∷ past) = times_noted past
times_noted (Cleared ∷ past) = []

-- the end of the last hold since the last clear: five minutes after the hold began
abbrev pub hold_end : List Event → Option ℕ
hold_end [] = None
hold_end (Noted time ∷ past) = hold_end past
hold_end (HeldAt time ∷ past) = Some (time + HOLD)
hold_end (Cleared ∷ past) = None

-- the time of the last start or hold since the last clear, or 0 if there was none
abbrev pub last_reading : List Event → ℕ
last_reading [] = 0
last_reading (Noted time ∷ past) = time
last_reading (HeldAt time ∷ past) = time
last_reading (Cleared ∷ past) = 0

-- the answer allows a start
abbrev pub is_yes : May → Bool
is_yes Yes = true
is_yes (HoldUntil end) = false

-- the event may follow this past: times do not decrease, and a start is noted only if the answer allows it
abbrev pub may_follow : List Event → Event → Bool
may_follow past (Noted now) = nat_le (last_reading past) now && is_yes (answer (times_noted past) (hold_end past) now)
may_follow past (HeldAt now) = nat_le (last_reading past) now
may_follow past Cleared = true

-- a run: each event may follow those before it
abbrev pub is_run : List Event → Bool
is_run [] = true
is_run (event ∷ past) = may_follow past event && is_run past

-- the event is not a clear
abbrev pub is_start_or_hold : Event → Bool
is_start_or_hold (Noted time) = true
is_start_or_hold (HeldAt time) = true
is_start_or_hold Cleared = false

-- the state after these events: the last starts noted, at most ten, and the end of the last hold
abbrev pub state_of : List Event → LimiterState
state_of past = record { starts = last_starts (times_noted past); held = hold_end past }

-- the limiter is in the state after these events, and its starts were noted in the order of their times
pub record IsStateAfter (limiter : LimiterState) (past : List Event) : Type 0 where
  pub state : limiter ≡ state_of past
  pub ordered : IsNonDecreasing (times_noted past)

-- in a run, of any eleven starts noted without a clear in between, the last comes at least two minutes after the first
abbrev pub StartsAreSpaced : Type 0
StartsAreSpaced = (later between earlier : List Event) (first last : ℕ)
    → IsTrue (is_run (later ++ (Noted last ∷ (between ++ (Noted first ∷ earlier)))))
    → IsTrue (list_all is_start_or_hold between)
    → STARTS ≤ length (times_noted between) + 1
    → first + WINDOW ≤ last

-- in a run, no start is noted within five minutes after a hold unless the limiter is cleared in between
abbrev pub NoStartDuringHold : Type 0
NoStartDuringHold = (later between earlier : List Event) (hold start : ℕ)
    → IsTrue (is_run (later ++ (Noted start ∷ (between ++ (HeldAt hold ∷ earlier)))))
    → IsTrue (list_all is_start_or_hold between)
    → hold + HOLD ≤ start
