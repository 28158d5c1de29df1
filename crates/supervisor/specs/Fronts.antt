-- The properties that hold up to each call of a run, whatever the later answers; see init(8). Calls are listed newest
-- first.
use Rattle.std.specs.Prelude.{◌≡◌, Bool, true, false, IsTrue, List, ◌∷◌, ◌++◌}
use Rattle.supervisor.specs.EdgeWords.{NotRead, Handed, Goal, Event, LogState, ReadTables, Carry, Announce, HostCall}
use Rattle.supervisor.specs.Point.{Point, point_after}
use Rattle.supervisor.specs.CallsLead.{Takes, IfPossibleFrom, CallsWereInPlace, are_seconds_short}

-- the call announces the outcome of the previous call, which read inittab or handed over a saved state
abbrev pub reports_outcome_of : HostCall → HostCall → Bool
reports_outcome_of (Announce NotRead) (ReadTables parts) = true
reports_outcome_of (Announce (Handed how)) (Carry text back) = true
reports_outcome_of _ _ = false

-- the property holds up to each call that another call follows, unless that other call announces its outcome
abbrev pub AtEachCall : (List HostCall → Type 0) → List HostCall → Type 0
AtEachCall P calls = (later earlier : List HostCall) (next call : HostCall)
    → calls ≡ later ++ next ∷ call ∷ earlier → reports_outcome_of next call ≡ false → P (call ∷ earlier)

-- the trace has grown, and what the log contains in the end begins with the happenings that were added so far
pub record Began (old new : LogState) (past now : List Event) : Type 0 where
  pub came : List Event
  pub grown : now ≡ came ++ past
  pub log : (before : List Event) → old.taken before → (more : List Event) × Takes old new before came more

-- `CallsWereInPlace` holds up to each call, and what the log accepts by the end of all calls begins with the happenings
-- since `from`
abbrev pub Fronts : (Point → List Event) → (Goal → Point → Type 0) → LogState → LogState → List HostCall → Type 0
Fronts from fitted old new = AtEachCall (IfPossibleFrom fitted (λ goal p calls. CallsWereInPlace goal p calls
    × (IsTrue (are_seconds_short goal p.past) → Began old new (from p) (point_after calls p).past)))
