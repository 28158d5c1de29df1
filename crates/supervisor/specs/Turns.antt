-- The calls that one turn of init makes to its host, and the calls that several turns make; see init(8). Calls are
-- listed newest first.
use Rattle.std.specs.Prelude.{◌≡◌, ◌≤◌, ◌⊎◌, ◌+◌, ℕ, zero, suc, Bool, true, false, ◌&&◌, ◌||◌, ◌==◌, not, nat_le}
use Rattle.std.specs.Prelude.{nat_lt, IsTrue, List, [], ◌∷◌, ◌++◌, drop, length, Option, Some, None, Result, Ok, Err}
use Rattle.std.specs.List.{list_all}
use Rattle.supervisor.specs.EdgeWords.{texts_of, are_readable, faults_of_parts, NotRead, Handed, Goal, due, first}
use Rattle.supervisor.specs.EdgeWords.{Event}
use Rattle.supervisor.specs.EdgeWords.{is_sound, CoreState, Start, Look, Signal, Late, Clock, TakeBytes, ReadTables}
use Rattle.supervisor.specs.EdgeWords.{Carry}
use Rattle.supervisor.specs.EdgeWords.{Announce, Pause, HostFault, HostCall, PartsRead, TextRead}
use Rattle.trace_events.specs.declared.steps.Step.TheVariants.{Idle}
use Rattle.core_model.specs.Decide.{is_drained}
use Rattle.host_calls.specs.Record.{NewCallsSatisfy}
use Rattle.supervisor.specs.declared.TheConstants.{BYTE_LIMIT, PIECE, LATE_LIMIT, STEP_LIMIT}
use Rattle.supervisor.specs.Point.{Point, point_after}
use Rattle.supervisor.specs.CallsLead.{Tracks, IfPossibleFrom, are_seconds_short}

-- the call does not ask for bytes
abbrev pub takes_no_bytes : HostCall → Bool
takes_no_bytes (TakeBytes room taken) = false
takes_no_bytes _ = true

-- the number of bytes that a call returned
abbrev pub bytes_in : TextRead → ℕ
bytes_in (Ok bytes) = length bytes
bytes_in (Err fault) = 0

-- the number of bytes that the calls returned
abbrev pub bytes_taken : List HostCall → ℕ
bytes_taken [] = 0
bytes_taken (TakeBytes room taken ∷ calls) = bytes_taken calls + bytes_in taken
bytes_taken (_ ∷ calls) = bytes_taken calls

-- the room is at least one byte, at most one piece, and at most the number of bytes that the turn may still read
abbrev pub is_room : ℕ → ℕ → Bool
is_room room before = nat_le 1 room && nat_le room PIECE && nat_le (before + room) BYTE_LIMIT

-- the calls asked for bytes, and each returned some
abbrev pub are_full : List HostCall → Bool
are_full [] = true
are_full (TakeBytes room taken ∷ calls) =
    is_room room (bytes_taken calls) && nat_le 1 (bytes_in taken) && are_full calls
are_full _ = false

-- the calls asked for bytes until one returned none or failed, or the turn reached its limit of bytes
abbrev pub are_byte_readings : List HostCall → Bool
are_byte_readings (TakeBytes room taken ∷ calls) =
    is_room room (bytes_taken calls) && are_full calls
    && (bytes_in taken == 0 || bytes_taken calls + bytes_in taken == BYTE_LIMIT)
are_byte_readings _ = false

-- the call returned a late answer
abbrev pub has_come : HostCall → Bool
has_come (Late (Some late)) = true
has_come _ = false

-- the calls asked for late answers until there was none, or until the turn reached its limit of calls for late answers
abbrev pub are_late_answers : List HostCall → Bool
are_late_answers (Late None ∷ calls) = list_all has_come calls && nat_lt (length calls) LATE_LIMIT
are_late_answers calls = list_all has_come calls && length calls == LATE_LIMIT

-- The calls carry out one step that is not a reading of inittab: an order, an announcement, or a hand-over of a saved
-- state followed by the announcement of its outcome if the text was not taken over.
abbrev pub is_step : List HostCall → Bool
is_step (Start id command reply ∷ []) = true
is_step (Look id reply ∷ []) = true
is_step (Signal id sent reply ∷ []) = true
is_step (Carry text back ∷ []) = true
is_step (Announce happening ∷ []) = true
is_step (Announce (Handed how) ∷ Carry text back ∷ []) = true
is_step _ = false

-- init may adopt the table in these files: they are not too many or too long, and with `--strict` no line is faulty
abbrev pub may_take : Bool → PartsRead → Bool
may_take strict (Ok parts) =
    are_readable (texts_of parts) && (not strict || length (faults_of_parts (texts_of parts)) == 0)
may_take strict (Err fault) = false

-- init read inittab and adopted its table, or read it and announced `notread`
abbrev pub is_reread : Bool → List HostCall → Bool
is_reread strict (ReadTables parts ∷ []) = may_take strict parts
is_reread strict (Announce NotRead ∷ ReadTables parts ∷ []) = true
is_reread strict _ = false

-- the calls carry out this number of steps, one after the other; `strict` is true if init runs with `--strict`
abbrev pub AreSteps : Bool → ℕ → List HostCall → Type 0
AreSteps strict zero calls = calls ≡ []
AreSteps strict (suc n) calls = (last before : List HostCall) × (calls ≡ last ++ before)
    × IsTrue (is_step last || is_reread strict last) × AreSteps strict n before

-- A turn reads the clock, reads bytes of requests, receives late answers, and takes steps until nothing is due or it
-- reaches the limit of steps.
pub record IsTurn (strict done : Bool) (calls : List HostCall) : Type 0 where
  pub time : Result ℕ HostFault
  pub takes : List HostCall
  pub lates : List HostCall
  pub steps : List HostCall
  pub whole : calls ≡ steps ++ (lates ++ (takes ++ Clock time ∷ []))
  pub byte_calls : are_byte_readings takes ≡ true
  pub late_calls : are_late_answers lates ≡ true
  pub count : ℕ
  pub step_calls : AreSteps strict count steps
  pub most : count ≤ STEP_LIMIT
  pub ended : IsTrue done ⊎ (count ≡ STEP_LIMIT)

-- The state after a turn that followed the calls `before`. The trace is sound and the core tracks it; if the turn was
-- done, nothing is due; and if the grace periods before the turn were at most 3,600 seconds, the turn only added to the
-- trace.
pub record Turned (done : Bool) (core : CoreState) (before : List HostCall) (goal : Goal) (p : Point)
    (calls : List HostCall) : Type 0 where
  pub sound : IsTrue (is_sound goal (point_after calls p).past)
  pub tracks : Tracks core goal (point_after calls p)
  pub rests : IsTrue done → first (due goal (point_after calls p).past) ≡ Idle
  pub adds : IsTrue (are_seconds_short goal p.past)
      → (came : List Event) × ((point_after calls p).past ≡ came ++ (point_after before p).past)

-- the calls of several turns with a pause after each, and the core after each turn, newest first
abbrev pub AreTurns : Bool → (Goal → Point → Type 0) → List CoreState → List HostCall → Type 0
AreTurns strict fitted [] calls = calls ≡ []
AreTurns strict fitted (core ∷ cores) calls = (done : Bool) × (last before : List HostCall)
    × (calls ≡ Pause ∷ (last ++ before)) × IsTurn strict done last
    × IfPossibleFrom fitted (Turned done core before) (last ++ before) × AreTurns strict fitted cores before

-- init has something left to do, or has a child
abbrev pub is_busy : CoreState → Bool
is_busy core = not (is_drained core)

-- Init made this number of turns, and an observer saw the core after each. With `drain`, only the last turn can have
-- left init drained.
abbrev pub MadeTurns : Bool → Bool → (Goal → Point → Type 0) → ℕ → Option (List CoreState) → Option (List CoreState)
    → List HostCall → Type 0
MadeTurns strict drain fitted turns saw now_saw calls = NewCallsSatisfy saw now_saw (λ cores. (length cores ≡ turns)
    × AreTurns strict fitted cores calls × (drain ≡ true → list_all is_busy (drop 1 cores) ≡ true))
