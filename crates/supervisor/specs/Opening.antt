-- A run from its start: its trace begins with the table in force (init(8)).
use Rattle.std.specs.Prelude.{◌≡◌, true, List, [], ◌∷◌, Option}
use Rattle.supervisor.specs.Words.{Entry, Level, is_distinct, NewTable, Goal, Event, CoreState, opening_goal}
use Rattle.supervisor.specs.Words.{opening_state, LogState, HostCall, EdgeState, Point}
use Rattle.supervisor.specs.Parts.{HoldsAfterTurns, MadeCallsLeadFrom}

-- the point at which a run begins: its trace has only the first table
abbrev pub start_point : List Entry → Point
start_point table = record { over = []; lates = 0; generation = 0; past = NewTable table ∷ [] }

-- the goal and the point at the start of a run; the goal is the given level if there is one, and otherwise the default
-- level of the table, or S
abbrev pub IsOpening : Option Level → List Entry → Goal → Point → Type 0
IsOpening level table goal p = (goal ≡ opening_goal level table) × (p ≡ start_point table)

-- the state at the start of a run: the core, and the first happening that the log receives
pub record StartState : Type 0 where
  pub core : CoreState
  pub told : Event

-- the state at the start of a run with this table in force, in which no id is repeated
pub record IsStartOver (level : Option Level) (table : List Entry) (o : StartState) : Type 0 where
  pub core : o.core ≡ opening_state table (opening_goal level table)
  pub told : o.told ≡ NewTable table
  pub distinct : is_distinct table ≡ true

-- The calls since the start of the run meet the condition `Turns`. The log received their trace from its first
-- happening on, and the core at the end tracks the trace.
abbrev pub MadeTurnsFromStart : {H L : Type 0} → (L → LogState) → EdgeState H L → EdgeState H L → Option Level
    → List Entry → (List HostCall → Type 0) → CoreState → Type 0
MadeTurnsFromStart state old new level table Turns core =
    MadeCallsLeadFrom (λ p. []) state old.told new.told (state old.log)
    (state new.log) Turns (IsOpening level table) (HoldsAfterTurns core)
