-- The output of the commands about inittabs, and the exit status.
use Rattle.std.specs.Prelude.{◌≡◌, ◌⊎◌, ℕ, true, List, [], ◌∷◌, ◌++◌, take, drop, Option, Some, None, unwrap_or, Ok}
use Rattle.std.specs.Prelude.{Err}
use Rattle.std.specs.List.{list_all}
use Rattle.initview_command.specs.Words.{DONE, REFUSED, DEVICE_FAULT, IsTextAt, KnownTexts, Entry, Level, NamedText}
use Rattle.initview_command.specs.Words.{texts_of, is_missing}
use Rattle.init_words.specs.declared.levels.Level.TheVariants.{S}
use Rattle.inittab_text.specs.declared.faults.TableFault.{TableFault}
use Rattle.inittab_text.specs.declared.faults.TableFault.TheVariants as fault
use Rattle.inittab_text.specs.Parts.{AreTooLong, AreTooMany, table_of_texts}
use Rattle.inittab_text.specs.Tables.{default_level_of}
use Rattle.inittab_lint.specs.declared.traps.LineWarning.{LineWarning}
use Rattle.initview_lines.specs.declared.lines.Line.{Line}
use Rattle.initview_lines.specs.declared.lint.Findings.{Findings}
use Rattle.initview_lines.specs.declared.lint.Findings.TheVariants as found
use Rattle.initview_lines.specs.Changes.{changes_in}
use Rattle.initview_lines.specs.Lint.{lint_in}
use Rattle.initview_lines.specs.Plans.{plan_in}
use Rattle.initview_command.specs.Asking.{PathTexts}
use Rattle.initview_command.specs.Showing.{Answer}
use Rattle.initview_command.specs.declared.asking.TableQuestion.{TableQuestion}
use Rattle.initview_command.specs.declared.asking.TableQuestion.TheVariants as table

-- `parts` are the files at the paths, in order: the name of each is its path, and its text is the one at the path
abbrev pub AreFilesAt : KnownTexts → List (List ℕ) → List NamedText → Type 0
AreFilesAt text_at [] parts = parts ≡ []
AreFilesAt text_at (path ∷ paths) parts =
    (text : List ℕ) × (others : List NamedText) × (parts ≡ record { name = path; bytes = text } ∷ others)
    × IsTextAt text_at path text × AreFilesAt text_at paths others

-- `parts` are the files `own`, followed by the files in a folder, if one is given
abbrev pub IsFolderBehind : Option (List ℕ) → List NamedText → List NamedText → Type 0
IsFolderBehind None own parts = parts ≡ own
IsFolderBehind (Some folder) own parts = (more : List NamedText) × (parts ≡ own ++ more)

-- `parts` are the files at the paths, followed by the files in the folder, if one is given
abbrev pub AreFiles : KnownTexts → PathTexts → List NamedText → Type 0
AreFiles text_at paths parts =
    (own : List NamedText) × AreFilesAt text_at paths.files own × IsFolderBehind paths.folder own parts

-- the exit status: 1 for faults, 2 for warnings only
abbrev pub found_status : Findings → ℕ
found_status found.Nothing = DONE
found_status found.Faults = REFUSED
found_status found.Warnings = 2

-- the table read from the files
abbrev pub table_in : List NamedText → List Entry
table_in parts = table_of_texts (texts_of parts)

-- the level for a command: the given level, or else the table's default, or else S, as for init
abbrev pub level_asked : Option Level → List Entry → Level
level_asked (Some level) table = level
level_asked None table = unwrap_or (default_level_of table) S

-- the changes between two inittabs in a level
abbrev pub changes_by : Option Level → List Entry → List Entry → List Line
changes_by level old new = changes_in (level_asked level new) old new

-- the lines for the entries that init starts on the way to a level
abbrev pub plan_by : Option Level → List Entry → List Line
plan_by level entries = plan_in (level_asked level entries) entries

-- the files of the old inittab of a diff: the first one, and all files after the second, which belong to both inittabs
abbrev pub old_of : List NamedText → List NamedText
old_of parts = take 1 parts ++ drop 2 parts

-- these are possible warnings about missing programs: any with --programs (the file system decides), none without it
abbrev pub AreMissing : TableQuestion → List LineWarning → Type 0
AreMissing table.Programs missing = list_all is_missing missing ≡ true
AreMissing _ missing = missing ≡ []

-- the faults and warnings of the files, including the given warnings, and the exit status
abbrev pub lint_by : List NamedText → List LineWarning → List Line × ℕ
lint_by parts missing = ((lint_in parts missing).0, found_status (lint_in parts missing).1)

-- the lines and the exit status for the files
abbrev pub answer_of : TableQuestion → List LineWarning → List NamedText → List Line × ℕ
answer_of (table.Diff level) missing parts =
    (changes_by level (table_in (old_of parts)) (table_in (drop 1 parts)), DONE)
answer_of (table.Plan level) missing parts = (plan_by level (table_in parts), DONE)
answer_of _ missing parts = lint_by parts missing

-- these lines and this exit status are the answer
abbrev pub IsAnswer : TableQuestion → List NamedText → List Line → ℕ → Type 0
IsAnswer asked parts lines status =
    (missing : List LineWarning) × AreMissing asked missing
    × (lines ≡ (answer_of asked missing parts).0) × (status ≡ (answer_of asked missing parts).1)

-- the files cannot be read as a table: there are too many, or they are too long
abbrev pub AreNone : List NamedText → Type 0
AreNone parts = AreTooMany (texts_of parts) ⊎ AreTooLong (texts_of parts)

-- the files of the old or of the new inittab of a diff cannot be read as a table
abbrev pub NoneOf : List NamedText → Type 0
NoneOf parts = AreNone (old_of parts) ⊎ AreNone (drop 1 parts)

-- the command rejects the files
abbrev pub IsRefused : TableQuestion → List NamedText → Type 0
IsRefused (table.Diff level) parts = NoneOf parts
IsRefused _ parts = AreNone parts

-- why there is no answer: memory ran out, or the files are rejected
abbrev pub FailsWith : Type 0 → TableFault → Type 0
FailsWith refused fault.Memory = Unit {0}
FailsWith refused fault.TooLong = refused
FailsWith refused fault.Parts = refused

-- the answer is the one for these files, or the exit status for files that are rejected
abbrev pub AnswersOf : TableQuestion → List NamedText → Answer → Type 0
AnswersOf asked parts answer =
    ((missing : List LineWarning) × AreMissing asked missing × (answer ≡ Ok (answer_of asked missing parts)))
    ⊎ ((answer ≡ Err REFUSED) × IsRefused asked parts)

-- the answer is the one for the files at the paths, or the exit status if a file could not be read or memory ran out
abbrev pub Answers : KnownTexts → PathTexts → TableQuestion → Answer → Type 0
Answers text_at paths asked answer =
    ((parts : List NamedText) × AreFiles text_at paths parts × AnswersOf asked parts answer)
    ⊎ (answer ≡ Err DEVICE_FAULT)
