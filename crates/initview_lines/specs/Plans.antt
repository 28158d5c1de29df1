-- The entries that init starts on its way to a level without any request, in order; and the critical path (inittab(5),
-- init(8)).
use Rattle.std.specs.Prelude.{ℕ, List, [], ◌∷◌, ◌++◌, map, Option, Some, None}
use Rattle.initview_lines.specs.CommonWords.{Entry, Level, Stage, waited_of, critical_path, started_in, stages_to}
use Rattle.initview_lines.specs.declared.lines.Line.{Line}
use Rattle.initview_lines.specs.declared.lines.Line.TheVariants as line
use Rattle.initview_lines.specs.declared.plans.Waited.{Waited}

-- an entry that init starts, and whether init waits for its child to end before it continues
abbrev pub start_line : Entry → Line
start_line e = line.Start e.id e.act (waited_of e)

-- a stage, followed by the entries that init starts in it
abbrev pub stage_lines : List Entry → Stage → List Line
stage_lines table stage = line.Stage (Some stage) ∷ map start_line (started_in table stage)

abbrev pub stages_lines : List Entry → List Stage → List Line
stages_lines table [] = []
stages_lines table (stage ∷ stages) = stage_lines table stage ++ stages_lines table stages

-- an entry on the critical path: its id and its action
abbrev pub waiting : Entry → Waited
waiting e = record { id = e.id; act = e.act }

-- the critical path to a level
abbrev pub waited_in : Level → List Entry → List Waited
waited_in level table = map waiting (critical_path level table)

-- the entries on a path, each with the previous one, whose end it waits for
abbrev pub path_lines : Option (List ℕ) → List Waited → List Line
path_lines before [] = []
path_lines before (w ∷ ws) = line.OnPath w.id w.act before ∷ path_lines (Some w.id) ws

-- the id of the last entry of a path
abbrev pub last_of : Option (List ℕ) → List Waited → Option (List ℕ)
last_of before [] = before
last_of before (w ∷ ws) = last_of (Some w.id) ws

-- the lines for a path, and for the level after its last entry
abbrev pub path_in : Level → List Waited → List Line
path_in level path = line.CriticalPath ∷ (path_lines None path ++ line.Reached level (last_of None path) ∷ [])

-- the plan for a level: its stages with their entries, then the critical path
abbrev pub plan_in : Level → List Entry → List Line
plan_in level table = stages_lines table (stages_to level) ++ path_in level (waited_in level table)
