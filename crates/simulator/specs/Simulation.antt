-- A run of init over a script: the text that it writes, and where it ends.
use Rattle.std.specs.Prelude.{◌≡◌, ◌≢◌, ℕ, true, false, ◌+◌, ◌<◌, List, [], ◌++◌, reverse, length, Option}
use Rattle.std.specs.Io.KnownBytes.{Appends, Keeps}
use Rattle.simulator.specs.Words.{Entry, Level, ended, newlines, table_of_text, Goal, Event, due, first, event_text}
use Rattle.simulator.specs.Words.{trace_text, is_in_range, are_in_range, is_run, is_rest, opening_goal}
use Rattle.inittab_text.specs.declared.reading.TheConstants.{TEXT_LIMIT}
use Rattle.trace_text.specs.Texts.{BeginsNone}
use Rattle.simulator.specs.declared.objections.Objection.{Objection}
use Rattle.simulator.specs.declared.running.SimFault.{SimFault}
use Rattle.simulator.specs.declared.running.SimFault.TheVariants as fault
use Rattle.simulator.specs.Faults.{Leaves}
use Rattle.simulator.specs.Handing.{are_handed}
use Rattle.simulator.specs.Said.{may_be_scripted, IsObjected, first_table, heard}

-- the input of a simulation: an inittab, a script, and optionally the level to go to
pub record Scenario : Type 0 where
  pub level : Option Level
  pub inittab : List ℕ
  pub script : List ℕ

abbrev pub scenario : Option Level → List ℕ → List ℕ → Scenario
scenario level inittab script = record { level = level; inittab = inittab; script = script }

-- the table read from the inittab
abbrev pub table_in : Scenario → List Entry
table_in s = table_of_text s.inittab

-- the goal at the start of the run
abbrev pub goal_in : Scenario → Goal
goal_in s = opening_goal s.level (table_in s)

-- the text of the script, with a newline after its last line
abbrev pub script_in : Scenario → List ℕ
script_in s = ended s.script

-- the text of a trace given newest first
abbrev pub past_text : List Event → List ℕ
past_text past = trace_text (reverse past)

-- the text of the happenings that came from the script
abbrev pub heard_text : List Event → List ℕ
heard_text past = past_text (heard past)

-- A run over the script up to the remaining text `rest`. The run begins with the inittab's table; each step of init is
-- the first due step; init processes the lines of the script in order, each when it is at rest; each hand-over is
-- possible.
pub record RunOver (s : Scenario) (rest : List ℕ) (past : List Event) : Type 0 where
  pub runs : is_run (goal_in s) past ≡ true
  pub handed : are_handed (goal_in s) past ≡ true
  pub opens : first_table past ≡ table_in s
  pub are : are_in_range (heard past) ≡ true
  pub hears : heard_text past ++ rest ≡ script_in s

-- a run over the script up to `rest`, after which init is at rest
pub record RunsToRest (s : Scenario) (rest : List ℕ) (past : List Event) : Type 0 where
  pub run : RunOver s rest past
  pub rests : is_rest (first (due (goal_in s) past)) ≡ true

-- the run over the whole script was written
abbrev pub Done : Scenario → Option (List ℕ) → Option (List ℕ) → Type 0
Done s old new = (past : List Event) × RunsToRest s [] past × Appends old new (past_text past)

-- the run over the lines before line n, counted from 1, was written, and the property holds for the text from line n on
abbrev pub SimulationEndsAt : Scenario → ℕ → (List ℕ → List Event → Type 0) → Option (List ℕ) → Option (List ℕ) → Type 0
SimulationEndsAt s n such old new =
    (rest : List ℕ) × (past : List Event) × (n ≡ newlines (heard_text past) + 1)
    × RunsToRest s rest past × Appends old new (past_text past) × such rest past

-- the remaining text is not empty, and does not begin with a happening
abbrev pub IsUnread : List ℕ → List Event → Type 0
IsUnread rest past = (rest ≢ []) × BeginsNone rest

-- the remaining text begins with a happening that may not be the next line of a script, for this reason
abbrev pub IsForbidden : Goal → Objection → List ℕ → List Event → Type 0
IsForbidden goal why rest past =
    (happening : Event) × (more : List ℕ) × (is_in_range happening ≡ true) × (event_text happening ++ more ≡ rest)
    × (may_be_scripted goal happening past ≡ false) × IsObjected goal happening past why

-- the fault occurred while a run over a first part of the script was being written
abbrev pub Broken : Scenario → SimFault → Option (List ℕ) → Option (List ℕ) → Type 0
Broken s f old new =
    (rest : List ℕ) × (past : List Event) × RunOver s rest past × Leaves f old new (past_text past)

-- the inittab is too long
abbrev pub IsTooLong : List ℕ → Type 0
IsTooLong inittab = TEXT_LIMIT < length inittab

-- How a run ends before the end of its script. If the inittab is too long, nothing was written. If a line is invalid or
-- not allowed, the run over the lines before it was written. If the writer or memory allocation failed, it failed while
-- a run over a first part of the script was being written.
abbrev pub Ends : Scenario → SimFault → Option (List ℕ) → Option (List ℕ) → Type 0
Ends s fault.Table old new = IsTooLong s.inittab × Keeps old new
Ends s (fault.Script n) old new = SimulationEndsAt s n IsUnread old new
Ends s (fault.Forbidden n why) old new = SimulationEndsAt s n (IsForbidden (goal_in s) why) old new
Ends s fault.Write old new = Broken s fault.Write old new
Ends s fault.Memory old new = Broken s fault.Memory old new
