-- How a command line of initd ends: its exit status, its output, and its reports.
use Rattle.std.specs.Prelude.{◌≡◌, ◌&&◌, not, ℕ, Bool, true, false, if◌then◌else◌, List, [], ◌∷◌, ◌++◌, codes, decimal}
use Rattle.std.specs.Prelude.{Option, Some, None, option_map, unwrap_or, string_bytes}
use Rattle.std.specs.Io.KnownBytes.{Keeps}
use Rattle.std.specs.Str.{bytes_eq}
use Rattle.initd_command.specs.Words.{AppendsReport, ReportList, DONE, REFUSED, UNLAWFUL, DEVICE_FAULT, SimFault}
use Rattle.simulator.specs.declared.running.SimFault.TheVariants as fault
use Rattle.simulator.specs.Faults.{fault_text}
use Rattle.simulator.specs.declared.objections.Objection.{Objection}
use Rattle.simulator.specs.Objections.{objection_text}
use Rattle.initd_command.specs.Lines.{line_at, line_told}
use Rattle.initd_command.specs.declared.check.TheConstants.{UNWRITTEN}
use Rattle.initd_command.specs.declared.reports.TheConstants.{FLAWED, NO_MEMORY, TOO_MANY, UNWAITED}
use Rattle.initd_command.specs.declared.command.TheConstants.{CHECK_USAGE, RUN_USAGE, SHORT_USAGE, SIMULATE_USAGE}
use Rattle.initd_command.specs.declared.command.TheConstants.{UNVERSIONED, VERSION_USAGE}
use Rattle.initd_command.specs.declared.run.Obstacle.{Obstacle}
use Rattle.initd_command.specs.declared.run.Obstacle.TheVariants as why
use Rattle.initd_command.specs.declared.run.TheConstants.{CAPPED, UNLED, UNPRINTED, UNTOLD}
use Rattle.initd_command.specs.Turned.{End, ReportsEnd, ReportsText, end_status}
use Rattle.command_words.specs.Faults.{usage_report}

-- What is reported about a judged trace, in addition to the verdict:
-- - `within`: its path, if it begins within a run
-- - `open_line`: the line at which its last happening begins, if that is incomplete
-- - `count`: the number of its complete happenings
pub record TraceJudgement : Type 0 where
  pub within : Option (List ℕ)
  pub open_line : Option ℕ
  pub count : ℕ

-- What determines the report about a run that made turns:
-- - `unled`: neither the arguments nor the inittab name the level to go to
-- - `capped`: no option specifies when the run ends, so it has the default limit of turns
-- - `told`: the faults of its inittab were written
-- - `printed`: its host printed all its output
pub record RunRemarks : Type 0 where
  pub unled : Bool
  pub capped : Bool
  pub told : Bool
  pub printed : Bool

-- An ending:
-- - `done`: success
-- - `usage`: the arguments are not a command line; with the usage of the command that they begin with, if any, and the
--   reason
-- - `refused`: there is an obstacle
-- - `stopped`: the simulated run over this script ended before the end of the script because of this fault
-- - `unflushed`: the output could not be flushed
-- - `lawful`: the trace is lawful
-- - `unlawful`: the trace is unlawful; with the message about the breach
-- - `torn`: no happening begins at the line of the trace with this number
-- - `unfinished`: the happening at this line of the trace is incomplete; with the verdict on the part before it
-- - `unwritten`: the verdict could not be written
-- - `turned`: a run on the operating system made turns, which ended like this
-- - `unversioned`: the version could not be written
pub data Ending : Type 0 where
  done : Ending
  usage : Option (List ℕ) → List ℕ → Ending
  refused : Obstacle → Ending
  stopped : List ℕ → SimFault → Ending
  unflushed : Ending
  lawful : TraceJudgement → Ending
  unlawful : List ℕ → TraceJudgement → Ending
  torn : ℕ → Ending
  unfinished : ℕ → List ℕ → Ending
  unwritten : Ending
  turned : RunRemarks → End → Ending
  unversioned : Ending

-- the exit status if there is an obstacle
abbrev pub obstacle_status : Obstacle → ℕ
obstacle_status why.TooMany = REFUSED
obstacle_status why.TooLong = REFUSED
obstacle_status (why.Flawed told) = REFUSED
obstacle_status (why.Unlisted id) = REFUSED
obstacle_status (why.Shared one other) = REFUSED
obstacle_status _ = DEVICE_FAULT

-- the exit status for a fault of a simulated run
abbrev pub fault_status : SimFault → ℕ
fault_status fault.Table = REFUSED
fault_status (fault.Script line) = REFUSED
fault_status (fault.Forbidden line why) = REFUSED
fault_status fault.Write = DEVICE_FAULT
fault_status fault.Memory = DEVICE_FAULT

-- the exit status of an ending. A run that reaches its turns has the status of its turns; but if the faults of its
-- inittab were not written, or its host could not print all its output, the status is `DEVICE_FAULT`
abbrev pub status_of : Ending → ℕ
status_of done = DONE
status_of (usage help reason) = REFUSED
status_of (refused obstacle) = obstacle_status obstacle
status_of (stopped script f) = fault_status f
status_of unflushed = DEVICE_FAULT
status_of (lawful judged) = DONE
status_of (unlawful message judged) = UNLAWFUL
status_of (torn line) = REFUSED
status_of (unfinished line verdict) = REFUSED
status_of unwritten = DEVICE_FAULT
status_of (turned spoken end) = if spoken.told && spoken.printed then end_status end else DEVICE_FAULT
status_of unversioned = DEVICE_FAULT

-- the line `initd: LINE: REASON` about a script line that is not allowed at its place
abbrev pub reason_message : List ℕ → Objection → List ℕ
reason_message line why = codes "initd: " ++ line_told line ++ codes ": " ++ objection_text why ++ codes "\n"

-- the message about the script line whose number the fault gives; empty if the fault gives none
abbrev pub reason_of : List ℕ → SimFault → List ℕ
reason_of script (fault.Forbidden number why) = reason_message (line_at number script) why
reason_of script _ = []

-- the report about a fault of a run over this script, followed by the reason if a line is not allowed at its place
abbrev pub fault_message : List ℕ → SimFault → List ℕ
fault_message script f = codes "initd: " ++ fault_text f ++ codes "\n" ++ reason_of script f

-- the line `initd: cannot VERB PATH: REASON`
abbrev pub cannot_message : List ℕ → List ℕ → List ℕ → List ℕ
cannot_message verb path why =
    codes "initd: cannot " ++ (verb ++ (codes " " ++ (path ++ (codes ": " ++ (why ++ codes "\n")))))

-- the report that no happening begins at the line of the trace with this number
abbrev pub torn_message : ℕ → List ℕ
torn_message line = codes "initd: trace line " ++ decimal line ++ codes " is not a happening\n"

-- the report that the trace at this path begins within a run
abbrev pub within_message : List ℕ → List ℕ
within_message path =
    codes "initd: " ++ path ++ codes " begins within a run; judged as if nothing came before it\n"

-- the report that the happening at this line is incomplete, for a trace that is judged up to it
abbrev pub left_message : ℕ → List ℕ
left_message line =
    codes "initd: the happening at trace line " ++ decimal line
    ++ codes " is incomplete; judged up to the line before it\n"

-- the report that the happening at this line is incomplete, for a trace that is rejected; with the verdict on the part
-- before it
abbrev pub unfinished_message : ℕ → List ℕ → List ℕ
unfinished_message line verdict =
    codes "initd: the happening at trace line "
    ++ (decimal line ++ (codes " is incomplete; use --growing to judge what comes before it: " ++ verdict))

-- the report that another process holds a file, with the name and number of the process if they are known
abbrev pub busy_message : List ℕ → Option (List ℕ) → List ℕ
busy_message path None =
    codes "initd: " ++ path
    ++ codes " is in use by another initd run; stop that run, or use another file\n"
busy_message path (Some holder) =
    codes "initd: " ++ (path ++ (codes " is in use by "
    ++ (holder ++ codes "; stop that process, or use another file\n")))

-- the report that two paths lead to the same file
abbrev pub shared_message : List ℕ → List ℕ → List ℕ
shared_message one other =
    codes "initd: " ++ (one ++ (codes " and " ++ (other ++ codes " are the same file; use two different files\n")))

-- the report that an inittab has no entry with this id
abbrev pub unlisted_message : List ℕ → List ℕ
unlisted_message id = codes "initd: no entry has the id " ++ (id ++ codes "; use --result with an id in the inittab\n")

-- the faults of an inittab that must have none are reported, followed by the message that the inittab is rejected
abbrev pub ReportsFlawed : List ℕ → ReportList → ReportList → Type 0
ReportsFlawed told old new = (mid : ReportList) × AppendsReport old mid told × AppendsReport mid new FLAWED.now

-- the text is reported if the condition is true, otherwise nothing is
abbrev pub ReportsIf : Bool → List ℕ → ReportList → ReportList → Type 0
ReportsIf true text old new = AppendsReport old new text
ReportsIf false text old new = new ≡ old

-- if the last happening is incomplete, this is reported
abbrev pub ReportsOpenLine : Option ℕ → ReportList → ReportList → Type 0
ReportsOpenLine None old new = new ≡ old
ReportsOpenLine (Some line) old new = ReportsText (left_message line) old new

-- if the trace begins within a run, this is reported
abbrev pub ReportsWithin : Option (List ℕ) → ReportList → ReportList → Type 0
ReportsWithin None old new = new ≡ old
ReportsWithin (Some path) old new = ReportsText (within_message path) old new

-- the report that the trace has this number of happenings
abbrev pub count_message : ℕ → List ℕ
count_message count = codes "initd: " ++ decimal count ++ codes " happenings\n"

-- the report about a trace that was judged: that it begins within a run, the number of its happenings, and that its
-- last happening is incomplete
abbrev pub ReportsJudged : TraceJudgement → ReportList → ReportList → Type 0
ReportsJudged judged old new =
    (first : ReportList) × ReportsWithin judged.within old first
    × (mid : ReportList) × ReportsText (count_message judged.count) first mid × ReportsOpenLine judged.open_line mid new

-- it is reported that an operation on a file failed, and why
abbrev pub ReportsCannot : List ℕ → List ℕ → ReportList → ReportList → Type 0
ReportsCannot verb path old new = (reason : List ℕ) × ReportsText (cannot_message verb path reason) old new

-- the obstacle is reported
abbrev pub ReportsObstacle : Obstacle → ReportList → ReportList → Type 0
ReportsObstacle (why.Unread path error) old new = ReportsCannot (codes "read") (string_bytes path) old new
ReportsObstacle why.Memory old new = AppendsReport old new NO_MEMORY.now
ReportsObstacle why.Unwaited old new = AppendsReport old new UNWAITED.now
ReportsObstacle why.TooMany old new = AppendsReport old new TOO_MANY.now
ReportsObstacle why.TooLong old new = ReportsText (fault_message [] fault.Table) old new
ReportsObstacle (why.Flawed told) old new = ReportsFlawed told.items old new
ReportsObstacle (why.Unlisted id) old new = ReportsText (unlisted_message id) old new
ReportsObstacle (why.Busy path holder) old new =
    ReportsText (busy_message (string_bytes path) (option_map string_bytes holder)) old new
ReportsObstacle (why.Shared one other) old new =
    ReportsText (shared_message (string_bytes one) (string_bytes other)) old new
ReportsObstacle (why.Unlocked path error) old new = ReportsCannot (codes "lock") (string_bytes path) old new
ReportsObstacle (why.Uncreated path error) old new = ReportsCannot (codes "create") (string_bytes path) old new

-- the usage of a command; none if there is no such command
abbrev pub usage_of : List ℕ → Option (List ℕ)
usage_of command =
    if bytes_eq command (codes "run") then Some RUN_USAGE.now
    else if bytes_eq command (codes "simulate") then Some SIMULATE_USAGE.now
    else if bytes_eq command (codes "check") then Some CHECK_USAGE.now
    else None

-- the usage of the command that the arguments begin with
abbrev pub usage_named : List (List ℕ) → Option (List ℕ)
usage_named [] = None
usage_named (command ∷ words) = usage_of command

-- the usage of all commands is reported
abbrev pub ReportsAll : ReportList → ReportList → Type 0
ReportsAll old new =
    (run simulate check : ReportList) × AppendsReport old run RUN_USAGE.now
    × AppendsReport run simulate SIMULATE_USAGE.now × AppendsReport simulate check CHECK_USAGE.now
    × AppendsReport check new VERSION_USAGE.now

-- The report about arguments that are not a command line: the reason and the usage of the command with which they
-- begin. If the reason is empty, help was requested; help without a command is the usage of all commands.
abbrev pub ReportsRefused : Option (List ℕ) → List ℕ → ReportList → ReportList → Type 0
ReportsRefused None [] old new = ReportsAll old new
ReportsRefused help reason old new =
    AppendsReport old new (usage_report (codes "initd") reason (unwrap_or help []) SHORT_USAGE.now)

-- the reports about this ending, and no others, were added
abbrev pub Reports : Ending → ReportList → ReportList → Type 0
Reports done old new = new ≡ old
Reports (usage help reason) old new = ReportsRefused help reason old new
Reports (refused obstacle) old new = ReportsObstacle obstacle old new
Reports (stopped script f) old new = ReportsText (fault_message script f) old new
Reports unflushed old new = ReportsText (fault_message [] fault.Write) old new
Reports (lawful judged) old new = ReportsJudged judged old new
Reports (unlawful message judged) old new =
    (mid : ReportList) × AppendsReport old mid message × ReportsJudged judged mid new
Reports (torn line) old new = ReportsText (torn_message line) old new
Reports (unfinished line verdict) old new = ReportsText (unfinished_message line verdict) old new
Reports unwritten old new = AppendsReport old new UNWRITTEN.now
Reports (turned spoken end) old new =
    (first : ReportList) × ReportsIf (not spoken.told) UNTOLD.now old first
    × (second : ReportList) × ReportsIf spoken.unled UNLED.now first second
    × (mid : ReportList) × ReportsIf spoken.capped CAPPED.now second mid
    × (last : ReportList) × ReportsEnd end mid last × ReportsIf (not spoken.printed) UNPRINTED.now last new
Reports unversioned old new = AppendsReport old new UNVERSIONED.now

-- the file at this path was not read, and nothing was written
abbrev pub EndsUnread : List ℕ → Ending → Option (List ℕ) → Option (List ℕ) → Type 0
EndsUnread path (refused (why.Unread at error)) old new = (string_bytes at ≡ path) × Keeps old new
EndsUnread path _ old new = ⊥
