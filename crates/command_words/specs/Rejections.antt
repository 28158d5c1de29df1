-- The messages for a rejected command line, and the reports about it.
use Rattle.std.specs.Prelude.{◌++◌, codes}
use Rattle.clap.specs.Words.{Text}
use Rattle.program_io.specs.Reports.{AppendsReport, ReportList}

-- the message for a reason, in the form of clap's messages
abbrev pub rejection_text : Text → Text
rejection_text reason = codes "error: " ++ (reason ++ codes "\n\nFor more information, try '--help'.\n")

-- the reason for rejecting the value of an option or argument
abbrev pub invalid_value_text : Text → Text → Text → Text
invalid_value_text name value why =
    codes "invalid value '" ++ (value ++ (codes "' for '" ++ (name ++ (codes "': " ++ why))))

-- a message was reported, followed by the line that names the manual page
abbrev pub ReportsRejection : Text → ReportList → ReportList → Type 0
ReportsRejection manual old new = (message : Text) × AppendsReport old new (message ++ manual)
