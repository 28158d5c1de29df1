-- The reasons for rejecting a command line, and the reports about the rejection.
use Rattle.std.specs.Prelude.{◌==◌, if◌then◌else◌, ◌++◌, codes, length, Option, Some, None, string_bytes}
use Rattle.clap.specs.Words.{Text}
use Rattle.program_io.specs.Reports.{AppendsReport, ReportList}
use Rattle.command_words.specs.declared.faults.WordFault.{WordFault}
use Rattle.command_words.specs.declared.faults.WordFault.TheVariants.{Usage, Memory}

-- the reason why the arguments are not a command line of the program; none if memory allocation failed
abbrev pub reason_of : WordFault → Option Text
reason_of (Usage reason) = Some (string_bytes reason)
reason_of Memory = None

-- the line that gives the reason: `NAME: REASON`
abbrev pub reason_line : Text → Text → Text
reason_line name reason = name ++ (codes ": " ++ (reason ++ codes "\n"))

-- the report for a rejected command line: a line with the reason, then the short usage; the whole usage if the reason
-- is empty, because help was requested
abbrev pub usage_report : Text → Text → Text → Text → Text
usage_report name reason whole short = if length reason == 0 then whole else reason_line name reason ++ short

-- the report that the arguments are rejected, with the program's usage, was added
abbrev pub ReportsUsage : Text → Text → Text → ReportList → ReportList → Type 0
ReportsUsage name whole short old new =
    (reason : Text) × AppendsReport old new (usage_report name reason whole short)
