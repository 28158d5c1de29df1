-- The messages of `lint` about the files of an inittab.
use Rattle.std.specs.Prelude.{◌≡◌, ℕ, Bool, false, ◌-◌, not, if◌then◌else◌, List, [], ◌∷◌, ◌++◌, filter, map}
use Rattle.std.specs.Prelude.{slice_get, Option, Some, None}
use Rattle.std.specs.List.{list_any}
use Rattle.std.specs.Option.{option_map_or}
use Rattle.text_lines.specs.Lines.{after_lines, cut, skip_blanks}
use Rattle.init_words.specs.declared.stages.Stage.TheVariants.{Run}
use Rattle.init_words.specs.Entries.{starts_of}
use Rattle.init_words.specs.Parts.{NamedText, texts_of}
use Rattle.inittab_text.specs.declared.faults.LineKind.{LineKind}
use Rattle.inittab_text.specs.declared.faults.LineKind.TheVariants as kind
use Rattle.inittab_text.specs.declared.faults.PartFault.{PartFault}
use Rattle.inittab_text.specs.Lines.{FieldBytes, fields_of}
use Rattle.inittab_text.specs.Parts.{faults_of_parts, table_of_texts}
use Rattle.inittab_text.specs.Tables.{default_level_of}
use Rattle.inittab_text.specs.Written.{is_empty}
use Rattle.inittab_lint.specs.declared.traps.LineWarning.{LineWarning}
use Rattle.inittab_lint.specs.declared.traps.Warning.{Warning}
use Rattle.inittab_lint.specs.declared.traps.Warning.TheVariants as warning
use Rattle.inittab_lint.specs.Meant.{meant}
use Rattle.inittab_lint.specs.Programs.{program_of}
use Rattle.inittab_lint.specs.Warnings.{warnings_of}
use Rattle.initview_lines.specs.CommonWords.{Act, Entry}
use Rattle.initview_lines.specs.declared.lines.FileLine.{FileLine}
use Rattle.initview_lines.specs.declared.lines.FileLine.TheVariants as told
use Rattle.initview_lines.specs.declared.lines.Line.{Line}
use Rattle.initview_lines.specs.declared.lines.Line.TheVariants.{File}
use Rattle.initview_lines.specs.declared.lint.Findings.{Findings}
use Rattle.initview_lines.specs.declared.lint.Findings.TheVariants as found
use Rattle.initview_lines.specs.declared.lint.Cursor.{Cursor}

-- the name of a file; empty if there is no such file
abbrev pub name_of : Option NamedText → List ℕ
name_of part = option_map_or (λ (p : NamedText). p.name) part []

-- the text of a file; empty if there is no such file
abbrev pub text_of : Option NamedText → List ℕ
text_of part = option_map_or (λ (p : NamedText). p.bytes) part []

-- the text up to its first newline
abbrev pub up_to : Option (List ℕ × List ℕ) → List ℕ → List ℕ
up_to None text = text
up_to (Some parts) text = parts.0

-- the first line of a text; empty if no text is given
abbrev pub line_begun : Option (List ℕ) → List ℕ
line_begun None = []
line_begun (Some text) = up_to (cut 10 text) text

-- the line with this number, counted from 1
abbrev pub line_at : ℕ → List ℕ → List ℕ
line_at number text = line_begun (after_lines (number - 1) text)

-- the cursor is right: `rest` is the text of its file after the first `before` lines
abbrev pub IsCursor : List NamedText → Cursor → Type 0
IsCursor parts cursor = after_lines cursor.before (text_of (slice_get parts cursor.part)) ≡ Some cursor.rest.now

-- the id or the action of an entry, if the fault is in that field
abbrev pub field_of : LineKind → FieldBytes → List ℕ
field_of kind.Id f = f.id
field_of kind.Twice f = f.id
field_of kind.Action f = f.action
field_of _ f = []

-- the faulty field of a line; empty if the line has too few fields
abbrev pub field_in : LineKind → Option FieldBytes → List ℕ
field_in kind fields = option_map_or (field_of kind) fields []

-- the action that was probably meant, if the fault is an unknown action
abbrev pub meant_for : LineKind → List ℕ → Option Act
meant_for kind.Action word = meant word
meant_for _ word = None

-- an ignored line: its number, the first check that it fails, the faulty field, and the action that was probably meant
abbrev pub left_out : PartFault → List ℕ → FileLine
left_out fault field = told.LeftOut fault.line fault.kind field (meant_for fault.kind field)

-- the message about an ignored line, given the text of the line
abbrev pub told_of : Option NamedText → PartFault → List ℕ → Line
told_of part fault line = File (name_of part) (left_out fault (field_in fault.kind (fields_of (skip_blanks line))))

-- the message about a fault
abbrev pub fault_line : Option NamedText → PartFault → Line
fault_line part fault = told_of part fault (line_at fault.line (text_of part))

-- the message about a fault in one of the files
abbrev pub fault_line_of : List NamedText → PartFault → Line
fault_line_of parts fault = fault_line (slice_get parts fault.part) fault

-- the line begins without an id, as in BusyBox's inittab
abbrev pub has_no_id : FieldBytes → Bool
has_no_id f = is_empty f.id

abbrev pub lacks_id : List ℕ → Bool
lacks_id line = option_map_or has_no_id (fields_of (skip_blanks line)) false

-- the line with the fault begins without an id
abbrev pub is_nameless : List NamedText → PartFault → Bool
is_nameless parts fault = lacks_id (line_at fault.line (text_of (slice_get parts fault.part)))

-- some line with a fault begins without an id
abbrev pub has_nameless : List NamedText → List PartFault → Bool
has_nameless parts faults = list_any (is_nameless parts) faults

-- the message of a warning about the line with this number and text; it names the program that was not found
abbrev pub warned : Warning → ℕ → List ℕ → FileLine
warned warning.Missing number line = told.Missing number (program_of line)
warned kind number line = told.Warning number kind

-- the line for a warning
abbrev pub warning_line : List NamedText → LineWarning → Line
warning_line parts found =
    let part = slice_get parts found.part in
    File (name_of part) (warned found.kind found.line (line_at found.line (text_of part)))

-- a message about the whole inittab, under the name of its first file, if the condition holds
abbrev pub note_if : Bool → List NamedText → FileLine → List Line
note_if so parts note = if so then File (name_of (slice_get parts 0)) note ∷ [] else []

-- some entry starts in the default level
abbrev pub serves : List Entry → Bool
serves table = option_map_or (λ level. list_any (λ e. starts_of e (Run level)) table) (default_level_of table) false

-- all messages, in order: the ignored lines that have an id; a message if lines have no id; the warnings; and a message
-- if no entry starts in the default level
abbrev pub lint_lines : List NamedText → List PartFault → List LineWarning → List Entry → List Line
lint_lines parts faults warnings table =
    map (fault_line_of parts) (filter (λ fault. not (is_nameless parts fault)) faults)
    ++ (note_if (has_nameless parts faults) parts told.Nameless
    ++ (map (warning_line parts) warnings
    ++ note_if (not (serves table)) parts (told.Default (default_level_of table))))

-- the overall result: faults take precedence over warnings
abbrev pub found_by : List PartFault → List LineWarning → Bool → Findings
found_by (fault ∷ faults) warnings served = found.Faults
found_by [] (warning ∷ warnings) served = found.Warnings
found_by [] [] served = if served then found.Nothing else found.Warnings

-- the messages and the overall result
abbrev pub lint_by : List NamedText → List PartFault → List LineWarning → List Entry → List Line × Findings
lint_by parts faults warnings table =
    (lint_lines parts faults warnings table, found_by faults warnings (serves table))

-- the messages and the result for these files: the faults that the reader found, the warnings that apply followed by
-- the given ones, and the default level of the table
abbrev pub lint_in : List NamedText → List LineWarning → List Line × Findings
lint_in parts more =
    lint_by parts (faults_of_parts (texts_of parts)) (warnings_of (texts_of parts) ++ more)
    (table_of_texts (texts_of parts))
