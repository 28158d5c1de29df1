-- Runs of rclinks on the paths of init scripts.
use Rattle.std.specs.Prelude.{◌≡◌, ◌⊎◌, ℕ, Bool, true, false, not, ◌||◌, ◌&&◌, List, [], ◌∷◌, ◌++◌, Option, Some, None}
use Rattle.std.specs.Prelude.{codes, option_map, unwrap_or}
use Rattle.std.specs.Option.{is_some}
use Rattle.std.specs.Io.KnownBytes.{Appends}
use Rattle.std.specs.declared.alloc.Global.{Global}
use Rattle.program_io.specs.Reports.{AppendsReport, ReportList}
use Rattle.program_io.specs.Writing.{AppendsPrefix}
use Rattle.program_io.specs.Known.{KnownTexts}
use Rattle.rc_links.specs.AllLast.{with_all}
use Rattle.rc_links.specs.Links.{plan_text}
use Rattle.rc_links.specs.PlannedText.{PlannedText}
use Rattle.rc_links.specs.Plans.{IsPlan, IsRefused}
use Rattle.rc_links.specs.ScriptText.{ScriptText}
use Rattle.rc_links.specs.declared.faults.PlanFault.{PlanFault}
use Rattle.rc_links.specs.declared.faults.PlanFault.TheVariants as plan_fault
use Rattle.clap.specs.Words.{App, Row, all_of, first_of}
use Rattle.command_words.specs.Arguments.{arguments, described}
use Rattle.command_words.specs.CommandLines.{given_by, is_set}
use Rattle.rclinks_command.specs.Facilities.{files_with}
use Rattle.rclinks_command.specs.Files.{AreScripts, IsNoScriptAt, file_status}
use Rattle.rclinks_command.specs.Folders.{KnownFolders, KnownScripts}
use Rattle.rclinks_command.specs.Reading.{Reads}
use Rattle.rclinks_command.specs.Reports.{ReportsRefused}
use Rattle.rclinks_command.specs.Skipping.{LeavesSome}
use Rattle.rclinks_command.specs.Writing.{InFolders, IsTaken, IsWritten, IsWrittenPart, Previews}
use Rattle.rclinks_command.specs.declared.command.TheConstants.{OPTIONS}
use Rattle.rclinks_command.specs.declared.files.FileFault.{FileFault}

-- the exit status for a fault of the plan: 4 if memory ran out, otherwise 1
abbrev pub plan_status : {A : Type 0} → PlanFault A → ℕ
plan_status (plan_fault.DoubleProvide name) = 1
plan_status (plan_fault.Missing name) = 1
plan_status (plan_fault.Cycle names) = 1
plan_status plan_fault.TooDeep = 1
plan_status plan_fault.Memory = 4

-- the scripts have no plan, for a reason other than lack of memory
abbrev pub HasNoPlan : List ScriptText → Type 0
HasNoPlan scripts = (found : PlanFault Global) × IsRefused scripts found × (plan_status found ≡ 1)

-- the first file that is not a script was rejected because of its name or its header
abbrev pub HasRefused : KnownTexts → List (List ℕ) → Type 0
HasRefused text_at paths = (before later : List (List ℕ)) × (path : List ℕ) × (paths ≡ before ++ path ∷ later)
    × ((scripts : List ScriptText) × AreScripts text_at before scripts)
    × (found : FileFault) × IsNoScriptAt text_at path found × (file_status found ≡ 1)

-- a parsed command line: report all faults (--all); omit scripts that can't be read or planned (--skip); put scripts
-- that name `$all` last (--all-last); print changes instead of making them (-n); read no facility files
-- (--no-facilities); keep the runlevels of existing links (--keep); remove links whose script is gone (--prune); the
-- directory of the folders that are written (--write); and the paths of the files
pub record Line : Type 0 where
  pub all : Bool
  pub skips : Bool
  pub last : Bool
  pub dry : Bool
  pub bare : Bool
  pub keeps : Bool
  pub prunes : Bool
  pub dir : Option (List ℕ)
  pub files : List (List ℕ)

-- the run continues after a fault
abbrev pub keeps_going : Line → Bool
keeps_going line = line.skips || line.all

abbrev pub command_line : App
command_line = described (codes "rclinks") (arguments OPTIONS.now)

-- the command line that the rows of the table describe
abbrev pub asked_by : List Row → Line
asked_by rows = record {
  all = is_set (codes "--all") rows;
  skips = is_set (codes "--skip") rows;
  last = is_set (codes "--all-last") rows;
  dry = is_set (codes "-n") rows;
  bare = is_set (codes "--no-facilities") rows;
  keeps = is_set (codes "--keep") rows;
  prunes = is_set (codes "--prune") rows;
  dir = first_of (codes "--write") rows;
  files = unwrap_or (all_of (codes "FILE") rows) [];
}

-- the command line for the arguments of the program; none if it is rejected
abbrev pub rclinks_read_of : List (List ℕ) → Option Line
rclinks_read_of words = option_map asked_by (given_by command_line words)

-- the arguments are a command line for which the property holds
abbrev pub ParsedArgumentsSatisfy : List (List ℕ) → (Line → Type 0) → Type 0
ParsedArgumentsSatisfy words P = (line : Line) × (rclinks_read_of words ≡ Some line) × P line

-- the command line with the facility files before its files, if links are created or their changes are printed
abbrev pub line_with : List (List ℕ) → Line → Line
line_with facilities line =
    record line { files = files_with facilities (is_some line.dir && not line.bare) line.files }

-- The property holds for the scripts that are planned. Without --skip, these are the scripts in all files. With --skip,
-- these are the scripts in all files that are scripts, except some that were omitted, each because there was no plan
-- with it. In both cases, the facility `$all` is added if the scripts that name it come last.
abbrev pub ScriptsOf : KnownTexts → (skips last : Bool) → List (List ℕ) → (List ScriptText → Type 0) → Type 0
ScriptsOf text_at false last paths P =
    (scripts : List ScriptText) × AreScripts text_at paths scripts × P (with_all last scripts)
ScriptsOf text_at true last paths P = (read rest : List ScriptText) × (faults : List FileFault)
    × Reads text_at paths read faults × LeavesSome (with_all last read) rest × P rest

-- the property holds for a plan of these scripts
abbrev pub PlanOf : KnownTexts → Line → (List PlannedText → Type 0) → Type 0
PlanOf text_at line P =
    ScriptsOf text_at line.skips line.last line.files
    (λ scripts. (plan : List PlannedText) × IsPlan scripts plan × P plan)

-- the run changes the folders of a directory
abbrev pub writes : Line → Bool
writes line = is_some line.dir && not line.dry

abbrev pub writes_by : Option Line → Bool
writes_by None = false
writes_by (Some line) = writes line

-- the changes after which the folders of a directory hold a plan's links were printed or made
abbrev pub DoesIn : Bool → Bool → KnownScripts → KnownFolders → List ℕ → KnownFolders → Option (List ℕ)
    → Option (List ℕ)
    → List PlannedText → Type 0
DoesIn true prunes scripts before dir after old new plan =
    (text : List ℕ) × Previews before scripts prunes dir plan text × Appends old new text
DoesIn false prunes scripts before dir after old new plan = IsWritten before scripts prunes dir plan after

-- the run did its work for a plan: it printed the links, or printed or made the changes after which the folders of a
-- directory hold them
abbrev pub DoesBy : Option (List ℕ) → Line → KnownScripts → KnownFolders → KnownFolders → Option (List ℕ)
    → Option (List ℕ) → List PlannedText → Type 0
DoesBy None line scripts before after old new plan = Appends old new (plan_text plan)
DoesBy (Some dir) line scripts before after old new plan =
    InFolders line.keeps before dir plan (DoesIn line.dry line.prunes scripts before dir after old new)

-- the whole work of a run: the scripts of its files have a plan, which was carried out
abbrev pub Does : KnownTexts → Line → KnownScripts → KnownFolders → KnownFolders → Option (List ℕ) → Option (List ℕ)
    → Type 0
Does text_at line scripts before after old new =
    PlanOf text_at line (DoesBy line.dir line scripts before after old new)

-- part of the changes was printed or made: a prefix of their text, or the first changes
abbrev pub PartIn : Bool → Bool → KnownScripts → KnownFolders → List ℕ → KnownFolders → Option (List ℕ)
    → Option (List ℕ)
    → List PlannedText → Type 0
PartIn true prunes scripts before dir after old new plan =
    (text : List ℕ) × Previews before scripts prunes dir plan text × AppendsPrefix old new text
PartIn false prunes scripts before dir after old new plan = IsWrittenPart before scripts prunes dir plan after

-- part of the work for a plan was done: a prefix of its text was printed, or part of the changes was printed or made
abbrev pub PartBy : Option (List ℕ) → Line → KnownScripts → KnownFolders → KnownFolders → Option (List ℕ)
    → Option (List ℕ) → List PlannedText → Type 0
PartBy None line scripts before after old new plan = AppendsPrefix old new (plan_text plan)
PartBy (Some dir) line scripts before after old new plan =
    InFolders line.keeps before dir plan (PartIn line.dry line.prunes scripts before dir after old new)

-- part of the work of a run: the scripts of its files have a plan, part of which was carried out
abbrev pub DoesPart : KnownTexts → Line → KnownScripts → KnownFolders → KnownFolders → Option (List ℕ)
    → Option (List ℕ) → Type 0
DoesPart text_at line scripts before after old new =
    PlanOf text_at line (PartBy line.dir line scripts before after old new)

-- a name that the plan needs in the folders of a directory is occupied
abbrev pub TakenBy : Option (List ℕ) → Line → KnownScripts → KnownFolders → List PlannedText → Type 0
TakenBy None line scripts before plan = ⊥
TakenBy (Some dir) line scripts before plan =
    InFolders line.keeps before dir plan (IsTaken before scripts line.prunes dir)

-- a run on these files is refused: a file is rejected, or the scripts have no plan
abbrev pub IsRefusedFor : KnownTexts → (skips last : Bool) → List (List ℕ) → Type 0
IsRefusedFor text_at skips last paths = HasRefused text_at paths ⊎ ScriptsOf text_at skips last paths HasNoPlan

-- a run is refused because of its files, or because a name is occupied
abbrev pub IsRefusedBy : KnownTexts → Line → KnownScripts → KnownFolders → Type 0
IsRefusedBy text_at line scripts before =
    IsRefusedFor text_at line.skips line.last line.files ⊎ PlanOf text_at line (TakenBy line.dir line scripts before)

-- the rejection of a file or of the plan is reported; or a name is occupied
abbrev pub TellsRefused : KnownTexts → Line → KnownScripts → KnownFolders → ReportList → ReportList → Type 0
TellsRefused text_at line scripts before old new =
    ((report : List ℕ) × ReportsRefused text_at line.last line.files [] report × AppendsReport old new report)
    ⊎ PlanOf text_at line (TakenBy line.dir line scripts before)
