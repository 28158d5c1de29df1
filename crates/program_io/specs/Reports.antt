-- The reports of a program, newest first.
use Rattle.std.specs.Prelude.{◌≡◌, ◌<◌, ℕ, List, ◌∷◌, ◌++◌, codes, length}

-- the reports of a program, newest first, each as its bytes
abbrev pub ReportList : Type 0
ReportList = List (List ℕ)

-- exactly one report was added, with this text
abbrev pub AppendsReport : ReportList → ReportList → List ℕ → Type 0
AppendsReport before after text = after ≡ text ∷ before

-- there is at least one report, and the newest one is not empty
abbrev pub LastReportNonempty : ReportList → Type 0
LastReportNonempty reports = (last : List ℕ) × (earlier : ReportList) × (reports ≡ last ∷ earlier) × (0 < length last)

-- the line `NAME: FAULT`
abbrev pub fault_text : List ℕ → List ℕ → List ℕ
fault_text name fault = name ++ (codes ": " ++ (fault ++ codes "\n"))

-- the line `NAME: ACT PATH: REASON`, with `more` appended to the reason: the consequence of the failure, or what to do
-- about it
abbrev pub failure_text : List ℕ → List ℕ → List ℕ → List ℕ → List ℕ → List ℕ
failure_text name act path reason more =
    fault_text name (act ++ (codes " " ++ (path ++ (codes ": " ++ (reason ++ more)))))
