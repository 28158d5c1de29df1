-- How a run of `rc` ends, and the output that it writes.
use Rattle.std.specs.Prelude.{◌≡◌, ◌⊎◌, ℕ, Bool, true, false, if◌then◌else◌, List, [], ◌++◌, codes, length, Option}
use Rattle.std.specs.Prelude.{Some, None, IsSome}
use Rattle.std.specs.List.{list_any}
use Rattle.std.specs.Io.KnownBytes.{Appends}
use Rattle.program_io.specs.Reports.{AppendsReport, ReportList}
use Rattle.program_io.specs.Writing.{AppendsPrefix}
use Rattle.program_io.specs.declared.statuses.TheConstants.{DEVICE_FAULT, DONE, LIMIT_REACHED}
use Rattle.host_calls.specs.Calls.{HostCall}
use Rattle.host_calls.specs.Record.{NewCallsSatisfy}
use Rattle.rc_driver.specs.declared.driving.RunEnd.{RunEnd}
use Rattle.rc_driver.specs.declared.driving.RunEnd.TheVariants as run_end
use Rattle.rc_driver.specs.declared.runs.RcAnswer.{RcAnswer}
use Rattle.rc_driver.specs.Printing.{command_lines}
use Rattle.rc_driver.specs.Report.{done_end, output, report}
use Rattle.rc_driver.specs.Runs.{LinkRun, RcState, is_failure}
use Rattle.rc_driver.specs.Sysv.{scripts_by}
use Rattle.rc_driver.specs.declared.runs.LevelChange.{LevelChange}
use Rattle.rc_driver.specs.Told.{RunsLinks}
use Rattle.rc_command.specs.CommandLine.{Asked, RcArguments, rc_read_of, run_arguments}
use Rattle.rc_command.specs.LevelFiles.{IsBeforeIn, KeepsIn, KnownFiles}
use Rattle.init_words.specs.declared.levels.Level.{Level}
use Rattle.rc_command.specs.declared.command.RunOptions.{RunOptions}
use Rattle.rc_command.specs.declared.running.TheConstants.{PAUSES_LIMIT, SCRIPT_FAILED}
use Rattle.rc_command.specs.Folders.{AreNamesAt, ArePrevious, KnownNames, folder_of}

-- the exit status for how a run ended; a failed script changes the status only with --strict
abbrev pub status_of : Bool → RunEnd → ℕ
status_of strict run_end.Done = DONE
status_of strict run_end.Failed = if strict then SCRIPT_FAILED else DONE
status_of strict (run_end.Limit link) = LIMIT_REACHED
status_of strict _ = DEVICE_FAULT

-- the exit status means that all scripts were carried out
abbrev pub AllScriptsEnded : ℕ → Type 0
AllScriptsEnded status = (status ≡ DONE) ⊎ (status ≡ SCRIPT_FAILED)

-- the scripts to run, given the names in two folders, before any is started; if a change of level is given, they are
-- the scripts that sysv-rc would run
abbrev pub rc_of : Option LevelChange → List (List ℕ) → List (List ℕ) → RcState
rc_of levels previous names = record { remaining = scripts_by levels previous names; waits = false }

-- no message about a time limit is possible: nothing is run, or scripts have no time limit
abbrev pub IsSilent : RunOptions → Type 0
IsSilent options = (options.dry ≡ true) ⊎ (options.way.seconds ≡ None)

-- the message about a script that has not ended, which names the link in the folder at the path
abbrev pub limit_text : List ℕ → List ℕ → List ℕ
limit_text path link = codes "rc: " ++ (path ++ (codes "/" ++ (link ++
    codes " has not ended after 100000 pauses of at most a second; it keeps running, and no later script was run\n")))

-- the message about how a run ended; empty if it is complete
abbrev pub ended_text : List ℕ → RunEnd → List ℕ
ended_text path (run_end.Limit link) = limit_text path link.now
ended_text path run_end.Write = codes "rc: cannot write\n"
ended_text path run_end.Memory = codes "rc: out of memory\n"
ended_text path _ = []

-- unless the run is complete, the message about how it ended is reported
abbrev pub ReportsEnd : List ℕ → RunEnd → ReportList → ReportList → Type 0
ReportsEnd path run_end.Done old new = new ≡ old
ReportsEnd path run_end.Failed old new = new ≡ old
ReportsEnd path ended old new = AppendsReport old new (ended_text path ended)

-- the scripts were run from the folder at the path, with these calls; the status is that for how the run ended, which
-- is reported after the messages about time limits
abbrev pub RunsScripts : RunOptions → List ℕ → RcState → Option (List ℕ) → ReportList → ℕ → Option (List ℕ)
    → ReportList → List HostCall → Type 0
RunsScripts options path rc before told status after tells calls = (ended : RunEnd) × (new : RcState)
    × (between : ReportList)
    × RunsLinks options.way path PAUSES_LIMIT false rc (output before told) ended new (output after between) calls
    × (status ≡ status_of options.strict ended) × ReportsEnd path ended between tells

-- the scripts to run, given the names in two folders, were run
abbrev pub RunsNames : RunOptions → List ℕ → List (List ℕ) → List (List ℕ) → Option (List ℕ) → ReportList → ℕ
    → Option (List ℕ) → ReportList → List HostCall → Type 0
RunsNames options path previous names before told status after tells calls =
    RunsScripts options path (rc_of options.way.levels previous names) before told status after tells calls

-- if the names in the two folders of the run are known, these are the names
abbrev pub AreNames : KnownNames → RcArguments → List (List ℕ) → List (List ℕ) → Type 0
AreNames names_at arguments previous names =
    ArePrevious names_at arguments.dir arguments.previous previous
    × AreNamesAt names_at (folder_of arguments.dir arguments.new) names

-- the scripts to run for these arguments were run, with the calls that the host recorded
abbrev pub RunsArguments : KnownNames → RcArguments → Option (List HostCall) → Option (List HostCall) → Option (List ℕ)
    → ReportList → ℕ → Option (List ℕ) → ReportList → Type 0
RunsArguments names_at arguments old new before told status after tells =
    (previous names : List (List ℕ)) × AreNames names_at arguments previous names × NewCallsSatisfy old new (λ calls.
    RunsNames arguments.options
    (folder_of arguments.dir arguments.new) previous names before told status after tells calls)

-- the output for the scripts to run, given the names in two folders and the scripts' outcomes: in a dry run, the
-- commands that would start them, otherwise the lines about them
abbrev pub written : RunOptions → List ℕ → List (List ℕ) → List (List ℕ) → List RcAnswer → List ℕ
written options path previous names answers =
    if options.dry then command_lines options.way path (scripts_by options.way.levels previous names)
    else report options.way (scripts_by options.way.levels previous names) answers

-- all scripts were carried out with these outcomes, which determine the status; or, in a dry run, the status is 0
abbrev pub IsEnded : RunOptions → List LinkRun → List RcAnswer → ℕ → Type 0
IsEnded options scripts answers status =
    (options.dry ≡ true → status ≡ DONE)
    × (options.dry ≡ false → (length answers ≡ length scripts)
    × (status ≡ status_of options.strict (done_end (list_any is_failure answers))))

-- the output for all scripts was written
abbrev pub ReportsNames : RunOptions → List ℕ → List (List ℕ) → List (List ℕ) → Option (List ℕ) → ℕ → Option (List ℕ)
    → Type 0
ReportsNames options path previous names old status new = (answers : List RcAnswer)
    × IsEnded options (scripts_by options.way.levels previous names) answers status
    × Appends old new (written options path previous names answers)

-- for some outcomes of the first scripts, a prefix of the output was written
abbrev pub ReportsFirst : RunOptions → List ℕ → List (List ℕ) → List (List ℕ) → Option (List ℕ) → Option (List ℕ)
    → Type 0
ReportsFirst options path previous names old new =
    (answers : List RcAnswer) × AppendsPrefix old new (written options path previous names answers)

-- the output for all scripts in the two folders of the run was written
abbrev pub Reports : KnownNames → RcArguments → Option (List ℕ) → ℕ → Option (List ℕ) → Type 0
Reports names_at arguments old status new =
    (previous names : List (List ℕ)) × AreNames names_at arguments previous names
    × ReportsNames arguments.options (folder_of arguments.dir arguments.new) previous names old status new

-- for some outcomes of the first scripts in the two folders of the run, a prefix of the output was written
abbrev pub ReportsPart : KnownNames → RcArguments → Option (List ℕ) → Option (List ℕ) → Type 0
ReportsPart names_at arguments old new =
    (previous names : List (List ℕ)) × AreNames names_at arguments previous names
    × ReportsFirst arguments.options (folder_of arguments.dir arguments.new) previous names old new

-- this is the previous level: the level in the arguments, or in the given file if its text is known
abbrev pub IsBefore : KnownFiles → Asked → Option Level → Type 0
IsBefore file_at asked before = IsBeforeIn file_at asked.previous asked.file before

-- there is a previous level such that the property holds for the run
abbrev pub ForResolvedArguments : KnownFiles → Asked → (RcArguments → Type 0) → Type 0
ForResolvedArguments file_at asked P = (before : Option Level) × IsBefore file_at asked before
    × P (run_arguments asked before)

-- the arguments are a command line for which the property holds
abbrev pub ParsedArgumentsSatisfy : List (List ℕ) → (Asked → Type 0) → Type 0
ParsedArgumentsSatisfy words P = (asked : Asked) × (rc_read_of words ≡ Some asked) × P asked

-- the arguments are a command line, and the property holds for the run with its previous level
abbrev pub Asks : KnownFiles → List (List ℕ) → (RcArguments → Type 0) → Type 0
Asks file_at words P = ParsedArgumentsSatisfy words (λ asked. ForResolvedArguments file_at asked P)

-- unless this is a dry run, the given file contains the new level; all other files are unchanged
abbrev pub Keeps : Asked → KnownFiles → KnownFiles → Type 0
Keeps asked old new = KeepsIn asked.options.dry asked.file asked.new old new

-- the status and the reports are those of the run; or, if all scripts were carried out but the new level could not be
-- written to the given file, the status is the one for a fault
abbrev pub IsStatusOf : Option (List ℕ) → ℕ → ReportList → ℕ → ReportList → Type 0
IsStatusOf file inner told status tells =
    ((status ≡ inner) × (tells ≡ told)) ⊎ (IsSome file × (status ≡ DEVICE_FAULT) × AllScriptsEnded inner)

-- in a dry run, the host is not called; otherwise the scripts were run, and the status is the one after the new level
-- was saved
abbrev pub RunsRequestedScripts : KnownFiles → KnownNames → Asked → Option (List HostCall) → Option (List HostCall)
    → Option (List ℕ) → ReportList → ℕ → Option (List ℕ) → ReportList → Type 0
RunsRequestedScripts file_at names_at asked old new before told status after tells =
    ForResolvedArguments file_at asked (λ arguments.
    (arguments.options.dry ≡ true → new ≡ old)
    × (arguments.options.dry ≡ false → (inner : ℕ) × (between : ReportList)
    × RunsArguments names_at arguments old new before told inner after between
    × IsStatusOf asked.file inner between status tells))
