-- The entries that init starts on its way to a level without any request, in order; see inittab(5) and init(8).
use Rattle.std.specs.Prelude.{ℕ, Bool, true, false, ◌&&◌, if◌then◌else◌, List, [], ◌∷◌, ◌++◌, map, filter}
use Rattle.init_words.specs.declared.entries.Entry.{Entry}
use Rattle.trace_laws.specs.Words.{Level, Start, Sysinit, Boot, Run, starts_of, waited_of, Goal, Step, Order}
use Rattle.init_words.specs.declared.levels.Level.TheVariants.{S}
use Rattle.init_words.specs.declared.stages.Stage.{Stage}
use Rattle.init_words.specs.Actions.{wanted_by}
use Rattle.init_words.specs.Levels.{same_level}
use Rattle.trace_events.specs.declared.steps.Step.TheVariants.{Enter}

-- init starts the entry in the stage without any request: the entry starts in this stage, and is wanted when it was
-- neither started nor called
abbrev pub is_started : Stage → Entry → Bool
is_started stage e = starts_of e stage && wanted_by e.act true true false

-- the entries that init starts in a stage without any request, in table order
abbrev pub started_in : List Entry → Stage → List Entry
started_in table stage = filter (is_started stage) table

-- the stage Boot, which init enters before the level; none if the level is S
abbrev pub boot_before : Level → List Stage
boot_before level = if same_level level S then [] else Boot ∷ []

-- the stages on the way to a level
abbrev pub stages_to : Level → List Stage
stages_to level = Sysinit ∷ (boot_before level ++ Run level ∷ [])

-- the order to start an entry
abbrev pub start_of : Entry → Step
start_of e = Order e.id Start

-- the steps of init in a stage: it enters the stage and starts its entries
abbrev pub steps_in : ℕ → List Entry → Stage → List Step
steps_in grace table stage = Enter stage grace ∷ map start_of (started_in table stage)

-- the steps of init in these stages, one after the other
abbrev pub steps_along : ℕ → List Entry → List Stage → List Step
steps_along grace table [] = []
steps_along grace table (stage ∷ stages) = steps_in grace table stage ++ steps_along grace table stages

-- the plan: the steps of init on its way to its goal
abbrev pub plan_of : Goal → List Entry → List Step
plan_of goal table = steps_along goal.grace table (stages_to goal.level)

-- init starts the entry in the stage without any request, and waits for it
abbrev pub is_on_path : Stage → Entry → Bool
is_on_path stage e = is_started stage e && waited_of e

-- the entries that init waits for in these stages, in the order in which it waits for them
abbrev pub path_along : List Entry → List Stage → List Entry
path_along table [] = []
path_along table (stage ∷ stages) = filter (is_on_path stage) table ++ path_along table stages

-- the critical path to a level: the entries that init waits for on the way, in order
abbrev pub critical_path : Level → List Entry → List Entry
critical_path level table = path_along table (stages_to level)
