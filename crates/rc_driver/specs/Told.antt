-- A run of scripts on a host, described by its calls.
use Rattle.std.specs.Prelude.{◌≡◌, ◌⊎◌, ◌≤◌, ◌-◌, ℕ, Bool, true, false, not, ◌||◌, List, [], ◌∷◌, ◌++◌, Option}
use Rattle.std.specs.Io.KnownBytes.{Appends}
use Rattle.program_io.specs.Reports.{ReportList}
use Rattle.program_io.specs.Writing.{AppendsPrefix}
use Rattle.host_calls.specs.Calls.{HostCall}
use Rattle.rc_driver.specs.declared.driving.RunEnd.{RunEnd}
use Rattle.rc_driver.specs.declared.driving.RunEnd.TheVariants as run_end
use Rattle.rc_driver.specs.declared.progress.Progress.{Progress}
use Rattle.rc_driver.specs.declared.progress.Progress.TheVariants as progress
use Rattle.rc_driver.specs.declared.runs.RcAnswer.{RcAnswer}
use Rattle.rc_driver.specs.declared.runs.ScriptOptions.{ScriptOptions}
use Rattle.rc_driver.specs.declared.times.Timer.{Timer}
use Rattle.rc_driver.specs.Progress.{RunsTo, count_pauses, is_waiting}
use Rattle.rc_driver.specs.Report.{Output, Tells, TellsStart, begin_line, command_text, done_end, is_over, line_of}
use Rattle.rc_driver.specs.Report.{lines_of}
use Rattle.rc_driver.specs.Runs.{LinkRun, RcState, is_failure}
use Rattle.rc_driver.specs.Times.{time_lines}

-- the calls run the script that a command starts until it finishes with this outcome, with at most this number of
-- pauses, and the messages about its running time were reported
abbrev pub RanBy : ScriptOptions → List ℕ → List ℕ → ℕ → LinkRun → RcAnswer → ReportList → ReportList
    → List HostCall → Type 0
RanBy way dir command pauses s given told tells calls = (time : Timer)
    × RunsTo way.seconds command (progress.Over given) time calls × (count_pauses calls ≤ pauses)
    × Tells told tells (time_lines way dir s.0 time)

-- the calls run the script that a link leads to
abbrev pub Ran : ScriptOptions → List ℕ → ℕ → LinkRun → RcAnswer → ReportList → ReportList → List HostCall
    → Type 0
Ran way dir pauses s given told tells calls =
    RanBy way dir (command_text way dir s) pauses s given told tells calls

-- a line of a script was not written completely: the line for its start, so the script was not started; or the line for
-- its end
abbrev pub EndsUnwritten : ScriptOptions → List ℕ → ℕ → LinkRun → Output → Output → List HostCall → Type 0
EndsUnwritten way dir pauses s before after calls =
    ((way.verbose ≡ true) × (calls ≡ []) × AppendsPrefix before.lines after.lines (begin_line s)
    × (after.told ≡ before.told))
    ⊎ ((given : RcAnswer) × (begun : Option (List ℕ)) × Ran way dir pauses s given before.told after.told calls
    × TellsStart way s before.lines begun × AppendsPrefix begun after.lines (line_of s given))

-- How a run ends at a script: the pauses are used up, the script is not finished, and the result names its link; or a
-- prefix of one of its lines was written; or the script was not started because memory ran out.
abbrev pub ScriptsEndAt : ScriptOptions → List ℕ → ℕ → LinkRun → Output → RunEnd → Output → List HostCall → Type 0
ScriptsEndAt way dir pauses s before (run_end.Limit link) after calls =
    (link.now ≡ s.0) × (now : Progress) × (time : Timer)
    × (is_waiting now ≡ true) × RunsTo way.seconds (command_text way dir s) now time calls
    × (count_pauses calls ≡ pauses) × Tells before.told after.told (time_lines way dir s.0 time)
    × TellsStart way s before.lines after.lines
ScriptsEndAt way dir pauses s before run_end.Write after calls = EndsUnwritten way dir pauses s before after calls
ScriptsEndAt way dir pauses s before run_end.Memory after calls = (calls ≡ []) × (after ≡ before)
ScriptsEndAt way dir pauses s before _ after calls = ⊥

-- a script ran until it finished with the host's answer, and its lines were written; `Rest` holds for the later calls,
-- given the pauses that remain, whether this script failed, and the output so far
abbrev pub ScriptsGoOn : ScriptOptions → List ℕ → ℕ → LinkRun → Output → List HostCall
    → (ℕ → Bool → Output → List HostCall → Type 0) → Type 0
ScriptsGoOn way dir pauses s before calls Rest = (given : RcAnswer) × (first later : List HostCall)
    × (between : Output) × (calls ≡ later ++ first) × Ran way dir pauses s given before.told between.told first
    × Appends before.lines between.lines (lines_of way s given)
    × Rest (pauses - count_pauses first) (is_failure given) between later

-- The scripts ran one after another, from a folder and with this number of pauses; `failed` is true if an earlier
-- script failed. Each script ran until it finished before the next began, until none remained or the run ended at a
-- script. The scripts after that one remain.
abbrev pub RunsFrom : ScriptOptions → List ℕ → ℕ → Bool → List LinkRun → Output → RunEnd → List LinkRun → Output
    → List HostCall → Type 0
RunsFrom way dir pauses failed [] before ended remaining after calls =
    (ended ≡ done_end failed) × (remaining ≡ []) × (after ≡ before) × (calls ≡ [])
RunsFrom way dir pauses failed (s ∷ scripts) before ended remaining after calls =
    (ScriptsEndAt way dir pauses s before ended after calls × (remaining ≡ scripts))
    ⊎ ScriptsGoOn way dir pauses s before calls
    (λ still fails between later. RunsFrom way dir still (failed || fails) scripts between ended remaining after later)

-- A run of the remaining scripts; `failed` is true if an earlier script failed. If a script that was begun earlier has
-- no answer yet, no script runs.
pub record RunsLinks (way : ScriptOptions) (dir : List ℕ) (pauses : ℕ) (failed : Bool) (old : RcState) (before : Output)
    (ended : RunEnd) (new : RcState) (after : Output) (calls : List HostCall) : Type 0 where
  pub waits : old.waits ≡ true → (ended ≡ run_end.Waiting) × (new ≡ old) × (after ≡ before) × (calls ≡ [])
  pub runs : old.waits ≡ false → RunsFrom way dir pauses failed old.remaining before ended new.remaining after calls
  pub answered : old.waits ≡ false → new.waits ≡ not (is_over ended)
