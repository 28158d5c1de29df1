-- The lines written for the scripts that ran, and how a run on a host ends.
use Rattle.std.specs.Prelude.{◌≡◌, ℕ, Bool, true, false, if◌then◌else◌, List, [], ◌∷◌, ◌++◌, length, codes, decimal}
use Rattle.std.specs.Prelude.{Option, Some, None}
use Rattle.std.specs.List.{list_any}
use Rattle.std.specs.Io.KnownBytes.{Appends}
use Rattle.init_words.specs.Levels.{level_code}
use Rattle.init_words.specs.declared.levels.Level.{Level}
use Rattle.init_words.specs.declared.children.Status.{Status}
use Rattle.init_words.specs.declared.children.Status.TheVariants as status
use Rattle.program_io.specs.Reports.{AppendsReport, ReportList}
use Rattle.program_io.specs.Writing.{AppendsPrefix}
use Rattle.rc_driver.specs.declared.driving.RunEnd.{RunEnd}
use Rattle.rc_driver.specs.declared.driving.RunEnd.TheVariants as run_end
use Rattle.rc_driver.specs.declared.runs.Arg.{Arg}
use Rattle.rc_driver.specs.declared.runs.Arg.TheVariants as arg
use Rattle.rc_driver.specs.declared.runs.RcAnswer.{RcAnswer}
use Rattle.rc_driver.specs.declared.runs.RcAnswer.TheVariants as answer
use Rattle.rc_driver.specs.declared.runs.LevelChange.{LevelChange}
use Rattle.rc_driver.specs.declared.runs.ScriptOptions.{ScriptOptions}
use Rattle.rc_driver.specs.Runs.{LinkRun, RcState, is_failure}

-- the word for an argument
abbrev pub arg_word : Arg → List ℕ
arg_word arg.Start = codes "start"
arg_word arg.Stop = codes "stop"

abbrev pub exit_text : ℕ → List ℕ
exit_text code = codes " exit " ++ (decimal code ++ codes "\n")

-- the text for the status of a script that ended
abbrev pub status_text : Status → List ℕ
status_text (status.Exit code) = exit_text code
status_text status.Killed = codes " killed\n"

-- the text for the outcome of a script
abbrev pub end_text : RcAnswer → List ℕ
end_text (answer.Ended how) = status_text how
end_text answer.NotStarted = codes " not started\n"

-- a line about a script: its link, its argument, and its outcome
abbrev pub script_line : LinkRun → List ℕ → List ℕ
script_line s how = s.0 ++ (codes " " ++ (arg_word s.1 ++ how))

-- the line about a finished script
abbrev pub line_of : LinkRun → RcAnswer → List ℕ
line_of s given = script_line s (end_text given)

-- the line about the start of a script
abbrev pub begin_line : LinkRun → List ℕ
begin_line s = script_line s (codes " begins\n")

-- the lines about a finished script: if starts are written, the line about its start, and then the line about its end
abbrev pub lines_of : ScriptOptions → LinkRun → RcAnswer → List ℕ
lines_of way s given = (if way.verbose then begin_line s else []) ++ line_of s given

-- the lines written to the output, if they are known, and the messages reported
pub record Output : Type 0 where
  pub lines : Option (List ℕ)
  pub told : ReportList

abbrev pub output : Option (List ℕ) → ReportList → Output
output lines told = record { lines = lines; told = told }

-- the lines, given newest first, were reported
abbrev pub Tells : ReportList → ReportList → List (List ℕ) → Type 0
Tells before after [] = after ≡ before
Tells before after (line ∷ lines) =
    (between : ReportList) × Tells before between lines × AppendsReport between after line

-- the line for a script's start was written, if starts are written
abbrev pub TellsStart : ScriptOptions → LinkRun → Option (List ℕ) → Option (List ℕ) → Type 0
TellsStart way s before after =
    (way.verbose ≡ true → Appends before after (begin_line s)) × (way.verbose ≡ false → after ≡ before)

-- the text before a script's path in the command that starts it
abbrev pub shell_word : ScriptOptions → List ℕ
shell_word way = if way.direct then [] else codes "sh "

-- the character of the previous level, N if there was none
abbrev pub before_code : Option Level → ℕ
before_code (Some level) = level_code level
before_code None = 78

-- the part of a command in which env(1) sets RUNLEVEL and PREVLEVEL for a script (init(8)); empty if rc does not set
-- them
abbrev pub level_words : Option LevelChange → List ℕ
level_words None = []
level_words (Some change) =
    codes "env RUNLEVEL=" ++ (level_code change.new ∷ (codes " PREVLEVEL=" ++ (before_code change.before ∷ codes " ")))

-- the command that starts the script that a link in the folder leads to
abbrev pub command_text : ScriptOptions → List ℕ → LinkRun → List ℕ
command_text way dir s =
    level_words way.levels ++ (shell_word way ++ (dir ++ (codes "/" ++ (s.0 ++ (codes " " ++ arg_word s.1)))))

-- the lines about the scripts and their outcomes, which are given in the same order, as far as both lists go
abbrev pub report : ScriptOptions → List LinkRun → List RcAnswer → List ℕ
report way (s ∷ scripts) (given ∷ answers) = lines_of way s given ++ report way scripts answers
report way _ _ = []

-- the end of a run in which all scripts are finished
abbrev pub done_end : Bool → RunEnd
done_end failed = if failed then run_end.Failed else run_end.Done

-- all scripts are finished
abbrev pub is_over : RunEnd → Bool
is_over run_end.Done = true
is_over run_end.Failed = true
is_over _ = false

-- The effect of a run on the remaining scripts and the output. The run wrote the lines of the remaining scripts, each
-- with an answer (other definitions state that it is the host's). If the run is over, it wrote the lines of all of
-- them, and its end shows whether a script failed. Otherwise it wrote the lines up to the point at which it ended, and
-- the last script that it began has no answer.
pub record WritesEnds (way : ScriptOptions) (old : RcState) (before : Option (List ℕ)) (ended : RunEnd) (new : RcState)
    (after : Option (List ℕ)) : Type 0 where
  pub answers : List RcAnswer
  pub part : AppendsPrefix before after (report way old.remaining answers)
  pub whole : is_over ended ≡ true →
      (ended ≡ done_end (list_any is_failure answers)) × (length answers ≡ length old.remaining)
      × Appends before after (report way old.remaining answers) × (new.remaining ≡ []) × (new.waits ≡ false)
  pub waits : is_over ended ≡ false → new.waits ≡ true
