-- The reports of telinit about its channel when it appends a request.
use Rattle.std.specs.Prelude.{◌≡◌, ℕ, Bool, true, false, List, ◌++◌, codes}
use Rattle.program_io.specs.Reports.{AppendsReport, ReportList}

-- an init reads the channel, or none does, or this is unknown for the given reason
pub data Reading : Type 0 where
  read : Reading
  unread : Reading
  unknown : List ℕ → Reading

-- if the channel did not exist and was created, this is reported
abbrev pub ReportsCreation : List ℕ → Bool → ReportList → ReportList → Type 0
ReportsCreation path true old new = AppendsReport old new (codes "telinit: created " ++ (path ++ codes "\n"))
ReportsCreation path false old new = new ≡ old

-- if no init reads the channel, or it is unknown whether one does, this is reported
abbrev pub ReportsReader : List ℕ → Reading → ReportList → ReportList → Type 0
ReportsReader path read old new = new ≡ old
ReportsReader path unread old new = AppendsReport old new
    (codes "telinit: no init is reading " ++ (path ++ codes "; the request stays there until one does\n"))
ReportsReader path (unknown reason) old new = AppendsReport old new
    (codes "telinit: cannot tell whether an init is reading " ++ (path ++ (codes ": " ++ (reason ++ codes "\n"))))

-- these are the reports about the channel at this path
abbrev pub ReportsChannel : List ℕ → ReportList → ReportList → Type 0
ReportsChannel path old new = (was_made : Bool) × (reading : Reading) × (made : ReportList)
    × ReportsCreation path was_made old made × ReportsReader path reading made new
