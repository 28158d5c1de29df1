-- The number of turns after which a level is settled. Calls are listed newest first: the pause after a turn, then the
-- calls of the turn.
use Rattle.std.specs.Prelude.{◌≡◌, ◌≤◌, ◌<◌, ◌+◌, ◌-◌, ℕ, zero, suc, Bool, ◌&&◌, IsTrue, nat_lt, if◌then◌else◌, List}
use Rattle.std.specs.Prelude.{[], ◌∷◌, length, take, Option, Some}
use Rattle.supervisor.specs.Words.{Entry, Level, Goal, Event, CoreState, opening_goal, Pause, HostCall, STEP_LIMIT}
use Rattle.supervisor.specs.Words.{are_carried, is_allowed, Point, point_after, MadeTurns}
use Rattle.init_words.specs.declared.stages.Stage.TheVariants.{Run}
use Rattle.trace_events.specs.Past.{is_idle, stage_of}
use Rattle.trace_events.specs.Wishes.{goal_of}
use Rattle.core_waiting.specs.Arrival.{destination, has_no_request, is_undisturbed, rounds_to_come}
use Rattle.core_waiting.specs.Rest.{is_level_announced}
use Rattle.supervisor.specs.Opening.{IsOpening, start_point}

-- the calls up to the newest pause, including it
abbrev pub calls_to_pause : List HostCall → List HostCall
calls_to_pause [] = []
calls_to_pause (Pause ∷ calls) = Pause ∷ calls
calls_to_pause (call ∷ calls) = calls_to_pause calls

-- the calls before the newest turn
abbrev pub without_turn : List HostCall → List HostCall
without_turn [] = []
without_turn (call ∷ calls) = calls_to_pause calls

-- the calls before the newest `n` turns
abbrev pub without_turns : ℕ → List HostCall → List HostCall
without_turns zero calls = calls
without_turns (suc n) calls = without_turns n (without_turn calls)

-- the trace after the calls
abbrev pub past_after : List HostCall → Point → List Event
past_after calls p = (point_after calls p).past

-- the part of the trace that the newest `n` turns added
abbrev pub round_of : ℕ → List HostCall → Point → List Event
round_of n calls p =
    take (length (past_after calls p) - length (past_after (without_turns n calls) p)) (past_after calls p)

-- the newest turn made fewer calls than the maximum number of steps in a turn, and left no order open
abbrev pub is_answered_turn : List HostCall → Point → Bool
is_answered_turn calls p =
    nat_lt (length calls) (length (without_turn calls) + STEP_LIMIT) && is_idle (past_after calls p)

-- the total number of turns in a list of rounds, which gives the number of turns in each round, newest round first
abbrev pub turns_in : List ℕ → ℕ
turns_in [] = 0
turns_in (n ∷ earlier) = n + turns_in earlier

-- the calls before all rounds in the list
abbrev pub without_rounds : List ℕ → List HostCall → List HostCall
without_rounds [] calls = calls
without_rounds (n ∷ earlier) calls = without_rounds earlier (without_turns n calls)

-- In each round of the list, init receives no request, except ones that it ignores, and reads no table; and the last
-- turn of the round is answered. The turn before all the rounds is answered, too. Anything else may happen in the
-- rounds.
abbrev pub are_unasked_rounds : List ℕ → List HostCall → Point → Bool
are_unasked_rounds [] calls p = is_answered_turn calls p
are_unasked_rounds (n ∷ earlier) calls p =
    is_answered_turn calls p && has_no_request (round_of n calls p)
    && are_unasked_rounds earlier (without_turns n calls) p

-- the number of undisturbed rounds in the list
abbrev pub undisturbed_rounds : List ℕ → List HostCall → Point → ℕ
undisturbed_rounds [] calls p = 0
undisturbed_rounds (n ∷ earlier) calls p =
    (if is_undisturbed (round_of n calls p) (past_after (without_turns n calls) p) then 1 else 0)
    + undisturbed_rounds earlier (without_turns n calls) p

-- The level is announced as settled that was in force after the trace `from`, or, if none was, the level that was the
-- goal at that moment.
abbrev pub IsSettled : Goal → List Event → List Event → Type 0
IsSettled goal from past = IsTrue (is_level_announced past)
    × (stage_of past ≡ Some (Run (destination (goal_of goal from).level (stage_of from))))

-- If the answers to these calls were possible, the host returned the state texts in a permitted way, and
-- `are_unasked_rounds` holds for the rounds, then the level is settled once the number of undisturbed rounds is at
-- least the number of rounds that were to come when they began.
abbrev pub SettlesWithin : Goal → Point → List ℕ → List HostCall → Type 0
SettlesWithin goal p rounds calls = IsTrue (is_allowed goal (past_after calls p)) → IsTrue (are_carried calls p)
    → IsTrue (are_unasked_rounds rounds calls p)
    → rounds_to_come goal (past_after (without_rounds rounds calls) p) ≤ undisturbed_rounds rounds calls p
    → IsSettled goal (past_after (without_rounds rounds calls) p) (past_after calls p)

-- `SettlesWithin` holds after each turn since the start of the run, whatever comes later, and however the turns so far
-- are grouped into rounds.
abbrev pub SettlesUpToEachTurn : Option Level → List Entry → ℕ → List HostCall → Type 0
SettlesUpToEachTurn level table turns calls = (later : ℕ) (rounds : List ℕ) → later + turns_in rounds < turns
    → SettlesWithin (opening_goal level table) (start_point table) rounds (without_turns later calls)

-- The run made this number of turns from its start, an observer saw the core after each turn, and the level is settled
-- after enough undisturbed rounds (`SettlesUpToEachTurn`).
abbrev pub AreObservedTurns : Bool → Bool → Option Level → List Entry → ℕ → Option (List CoreState)
    → Option (List CoreState) → List HostCall → Type 0
AreObservedTurns strict drain level table turns saw now_saw calls =
    MadeTurns strict drain (IsOpening level table) turns saw now_saw calls × SettlesUpToEachTurn level table turns calls
