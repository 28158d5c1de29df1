-- The report of a refused run: warnings, then the line that says why, followed by details.
use Rattle.std.specs.Prelude.{◌≡◌, ◌⊎◌, ℕ, Bool, List, [], ◌∷◌, ◌++◌, codes, flat_map}
use Rattle.std.specs.declared.alloc.Global.{Global}
use Rattle.program_io.specs.Known.{KnownTexts}
use Rattle.rc_links.specs.AllLast.{with_all}
use Rattle.rc_links.specs.FaultTexts.{fault_text}
use Rattle.rc_links.specs.Plans.{IsRefused}
use Rattle.rc_links.specs.ScriptText.{ScriptText}
use Rattle.rc_links.specs.declared.faults.PlanFault.{PlanFault}
use Rattle.rclinks_command.specs.Files.{AreScripts, IsNoScriptAt, file_status}
use Rattle.rclinks_command.specs.declared.files.FileFault.{FileFault}

-- a line that consists of the program's name, a word and the rest of the text
abbrev pub line_of : List ℕ → List ℕ → List ℕ
line_of word rest = codes "rclinks: " ++ (word ++ (rest ++ codes "\n"))

-- some lines that begin with this word were added
abbrev pub TellsLines : List ℕ → List ℕ → List ℕ → Type 0
TellsLines word old new = (lines : List (List ℕ)) × (new ≡ old ++ flat_map (line_of word) lines)

-- some warnings were added
abbrev pub ReportsWarning : List ℕ → List ℕ → Type 0
ReportsWarning old new = TellsLines (codes "warning: ") old new

-- the line was added, followed by others with details
abbrev pub ReportsReason : List ℕ → List ℕ → List ℕ → List ℕ → Type 0
ReportsReason word rest old new = TellsLines [] (old ++ line_of word rest) new

-- some warnings were added, then the line and its details
abbrev pub ReportsWhy : List ℕ → List ℕ → List ℕ → List ℕ → Type 0
ReportsWhy word rest old new = (mid : List ℕ) × ReportsWarning old mid × ReportsReason word rest mid new

-- warnings about a file that is a script were added; or, if the file is rejected, the reason was added
abbrev pub TellsOne : KnownTexts → List ℕ → List FileFault → List FileFault → List ℕ → List ℕ → Type 0
TellsOne text_at path before after old new = ((after ≡ before) × ReportsWarning old new)
    ⊎ ((found : FileFault) × (after ≡ before ++ found ∷ []) × IsNoScriptAt text_at path found
    × (file_status found ≡ 1 → ReportsWhy (codes "bad header: ") path old new))

-- the first file that is not a script is rejected, and the report names its path
abbrev pub ReportsFile : KnownTexts → List (List ℕ) → List ℕ → List ℕ → Type 0
ReportsFile text_at paths old new = (before later : List (List ℕ)) × (path : List ℕ) × (paths ≡ before ++ path ∷ later)
    × ((scripts : List ScriptText) × AreScripts text_at before scripts)
    × (found : FileFault) × IsNoScriptAt text_at path found × (file_status found ≡ 1)
    × ReportsWhy (codes "bad header: ") path old new

-- if all files are scripts, warnings were added; otherwise the first file that is not a script was reported
abbrev pub TellsFiles : KnownTexts → List (List ℕ) → List FileFault → List ℕ → List ℕ → Type 0
TellsFiles text_at paths faults old new = ((faults ≡ []) × ReportsWarning old new)
    ⊎ ((found : FileFault) × (faults ≡ found ∷ []) × (file_status found ≡ 1 → ReportsFile text_at paths old new))

-- the reason why the scripts have no plan was added
abbrev pub TellsPlan : List ScriptText → List ℕ → List ℕ → Type 0
TellsPlan scripts old new =
    (found : PlanFault Global) × IsRefused scripts found × ReportsReason [] (fault_text found) old new

-- the reason why the scripts have no plan was added after warnings
abbrev pub ReportsPlan : List ScriptText → List ℕ → List ℕ → Type 0
ReportsPlan scripts old new = (mid : List ℕ) × ReportsWarning old mid × TellsPlan scripts mid new

-- the reason why the files or their scripts are rejected is reported
abbrev pub ReportsRefused : KnownTexts → Bool → List (List ℕ) → List ℕ → List ℕ → Type 0
ReportsRefused text_at last paths old new = ReportsFile text_at paths old new
    ⊎ (scripts : List ScriptText) × AreScripts text_at paths scripts × ReportsPlan (with_all last scripts) old new
