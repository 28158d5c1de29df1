-- The lines in an inittab's files that have a given id: the position of each, and its text or the reason why it is
-- ignored.
use Rattle.std.specs.Prelude.{ℕ, Bool, ◌+◌, ◌&&◌, ◌==◌, if◌then◌else◌, List, [], ◌∷◌, ◌++◌, find, Option, Some, None}
use Rattle.std.specs.Str.{bytes_eq}
use Rattle.text_lines.specs.Lines.{cut, lines_of, skip_blanks}
use Rattle.init_words.specs.Parts.{NamedText, texts_of}
use Rattle.inittab_text.specs.declared.faults.PartFault.{PartFault}
use Rattle.inittab_text.specs.Parts.{faults_of_parts}
use Rattle.inittab_text.specs.Written.{is_empty}
use Rattle.initview_lines.specs.declared.lines.FileLine.TheVariants as told
use Rattle.initview_lines.specs.declared.lines.Line.{Line}
use Rattle.initview_lines.specs.declared.lines.Line.TheVariants.{File}
use Rattle.initview_lines.specs.Lint.{fault_line, note_if, up_to}

-- the id of a line: the text before its first colon, even if the line has too few colons
abbrev pub id_written : List ℕ → List ℕ
id_written line = up_to (cut 58 (skip_blanks line)) (skip_blanks line)

-- the fault is in the line with this number, in the file with this number
abbrev pub is_fault_at : ℕ → ℕ → PartFault → Bool
is_fault_at part number fault = fault.part == part && fault.line == number

-- the fault that the reader found in this line
abbrev pub fault_at : List PartFault → ℕ → ℕ → Option PartFault
fault_at faults part number = find (is_fault_at part number) faults

-- the fault, if the line is ignored; otherwise the line itself
abbrev pub line_told : NamedText → ℕ → List ℕ → Option PartFault → Line
line_told file number line (Some fault) = fault_line (Some file) fault
line_told file number line None = File file.name (told.Kept number line)

-- the message about a line that has the id; none about any other line
abbrev pub own_line : List ℕ → List PartFault → ℕ → NamedText → ℕ → List ℕ → List Line
own_line id faults part file number line =
    if bytes_eq (id_written line) id then line_told file number line (fault_at faults part number) ∷ [] else []

-- the messages about the lines of a file; lines are numbered from `number`
abbrev pub own_lines : List ℕ → List PartFault → ℕ → NamedText → ℕ → List (List ℕ) → List Line
own_lines id faults part file number [] = []
own_lines id faults part file number (line ∷ lines) =
    own_line id faults part file number line ++ own_lines id faults part file (number + 1) lines

-- the messages about the lines of several files; files are numbered from `part`
abbrev pub lines_from : List ℕ → List PartFault → ℕ → List NamedText → List Line
lines_from id faults part [] = []
lines_from id faults part (file ∷ files) =
    own_lines id faults part file 1 (lines_of file.bytes) ++ lines_from id faults (part + 1) files

-- the lines, or if there are none, a message that no line has the id
abbrev pub or_none : List ℕ → List NamedText → List Line → List Line
or_none id files lines = lines ++ note_if (is_empty lines) files (told.NoLine id)

-- the messages about the lines that have the id, given the faults that the reader found
abbrev pub lines_by : List ℕ → List PartFault → List NamedText → List Line
lines_by id faults files = or_none id files (lines_from id faults 0 files)

-- the messages about the lines that have the id, in the files of an inittab
abbrev pub id_lines : List ℕ → List NamedText → List Line
id_lines id files = lines_by id (faults_of_parts (texts_of files)) files
