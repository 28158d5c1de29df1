-- The calls that each part of a script's run adds to those of the run.
use Rattle.std.specs.Prelude.{◌≡◌, ◌+◌, ℕ, Bool, true, false, ◌||◌, List, ◌∷◌, ◌++◌, Option}
use Rattle.host_calls.specs.Calls.{HostCall}
use Rattle.rc_driver.specs.declared.progress.Progress.{Progress}
use Rattle.rc_driver.specs.declared.progress.Progress.TheVariants as progress
use Rattle.rc_driver.specs.declared.times.Timer.{Timer}
use Rattle.rc_driver.specs.declared.times.Timer.TheVariants as timer
use Rattle.std.specs.Io.KnownBytes.{Appends}
use Rattle.rc_driver.specs.declared.runs.RcAnswer.{RcAnswer}
use Rattle.rc_driver.specs.Progress.{RunsTo, count_pauses, is_waiting}
use Rattle.rc_driver.specs.declared.driving.RunEnd.{RunEnd}
use Rattle.rc_driver.specs.declared.driving.RunEnd.TheVariants as run_end
use Rattle.rc_driver.specs.declared.runs.ScriptOptions.{ScriptOptions}
use Rattle.rc_driver.specs.Report.{Output, Tells, command_text, line_of, lines_of}
use Rattle.rc_driver.specs.Runs.{LinkRun, RcState, is_failure}
use Rattle.rc_driver.specs.Times.{time_lines}
use Rattle.rc_driver.specs.Told.{RanBy}
use Rattle.program_io.specs.Reports.{ReportList}
use Rattle.program_io.specs.Writing.{AppendsPrefix}

-- the calls begin the script's run, without a pause
abbrev pub Begins : Option ℕ → List ℕ → Progress → List HostCall → Type 0
Begins limit command now calls = RunsTo limit command now timer.Unread calls × (count_pauses calls ≡ 0)

-- after a run that brought the script to progress `before`, these calls, with this number of pauses, bring it to
-- progress `now`
abbrev pub ScriptProgresses : Option ℕ → Progress → Timer → Progress → Timer → ℕ → List HostCall → Type 0
ScriptProgresses limit before old now new pauses calls = (count_pauses calls ≡ pauses)
    × ((command : List ℕ) (earlier : List HostCall) → RunsTo limit command before old earlier
    → RunsTo limit command now new (calls ++ earlier))

-- after a run that brought the script to progress `before`, these calls, with this number of pauses, bring it to
-- progress `now` and do not change the timer
abbrev pub ScriptContinues : Option ℕ → Progress → Progress → ℕ → List HostCall → Type 0
ScriptContinues limit before now pauses calls = (time : Timer)
    → ScriptProgresses limit before time now time pauses calls

-- the calls since the start brought the script to this progress, and used the pauses by which `old` exceeds `new`
abbrev pub GoneTo : Option ℕ → List ℕ → Progress → Timer → ℕ → ℕ → List HostCall → Type 0
GoneTo limit command now time old new calls = RunsTo limit command now time calls × (old ≡ count_pauses calls + new)

-- the script finished with this outcome, and the messages about its running time were reported
abbrev pub HasRun : ScriptOptions → List ℕ → List ℕ → List ℕ → RcAnswer → ℕ → ℕ → ReportList → ReportList
    → List HostCall → Type 0
HasRun way dir link command given pauses still told tells calls = (time : Timer)
    × GoneTo way.seconds command (progress.Over given) time pauses still calls
    × Tells told tells (time_lines way dir link time)

-- the pauses are used up, the script is not finished, and the messages about its running time were reported
abbrev pub EndsEarly : ScriptOptions → List ℕ → List ℕ → List ℕ → ℕ → ReportList → ReportList → List HostCall
    → Type 0
EndsEarly way dir link command pauses told tells calls = (now : Progress) × (time : Timer) × (is_waiting now ≡ true)
    × RunsTo way.seconds command now time calls × (count_pauses calls ≡ pauses)
    × Tells told tells (time_lines way dir link time)

-- the script was started, and a look at it is due
abbrev pub is_born : Progress → Bool
is_born progress.Born = true
is_born _ = false

-- the script was found alive, and a signal to it may be due
abbrev pub is_found : Progress → Bool
is_found progress.Found = true
is_found _ = false

-- the script did not finish within the pauses, and the result names its link; or its line could not be written
abbrev pub EndsCommand : ScriptOptions → List ℕ → List ℕ → ℕ → LinkRun → Output → RunEnd → Output → List HostCall
    → Type 0
EndsCommand way dir command pauses s before (run_end.Limit link) after calls = (link.now ≡ s.0)
    × EndsEarly way dir s.0 command pauses before.told after.told calls × (after.lines ≡ before.lines)
EndsCommand way dir command pauses s before run_end.Write after calls = (given : RcAnswer)
    × RanBy way dir command pauses s given before.told after.told calls
    × AppendsPrefix before.lines after.lines (line_of s given)
EndsCommand way dir command pauses s before _ after calls = ⊥

-- the next script ran and finished, and its lines were written
abbrev pub Advanced : ScriptOptions → List ℕ → ℕ → ℕ → Bool → Bool → RcState → Output → RcState → Output → List HostCall
    → Type 0
Advanced way dir pauses still failed fails old before new after calls = (s : LinkRun) × (given : RcAnswer)
    × (old.waits ≡ false) × (old.remaining ≡ s ∷ new.remaining) × (new.waits ≡ false)
    × (fails ≡ (failed || is_failure given))
    × HasRun way dir s.0 (command_text way dir s) given pauses still before.told after.told calls
    × Appends before.lines after.lines (lines_of way s given)
