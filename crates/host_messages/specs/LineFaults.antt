-- The lines that report the faulty lines of an inittab's files.
use Rattle.std.specs.Prelude.{ℕ, if◌then◌else◌, ◌==◌, List, [], ◌++◌, flat_map, codes, decimal, Option, Some, None}
use Rattle.std.specs.Prelude.{slice_get}
use Rattle.init_words.specs.Parts.{NamedText}
use Rattle.inittab_text.specs.declared.faults.LineKind.{LineKind}
use Rattle.inittab_text.specs.declared.faults.PartFault.{PartFault}
use Rattle.inittab_text.specs.Faults.{kind_text}

-- the name of a file, followed by a blank; empty if there is no such file
abbrev pub name_text : Option NamedText → List ℕ
name_text None = []
name_text (Some part) = part.name ++ codes " "

-- the name of the file in which a fault is, given the file's number; empty for the first file
abbrev pub place_text : List NamedText → ℕ → List ℕ
place_text parts number = if number == 0 then [] else name_text (slice_get parts number)

-- the text that gives the number of a line and the check that it fails
abbrev pub line_text : ℕ → LineKind → List ℕ
line_text line kind = codes "line " ++ decimal line ++ codes ": " ++ kind_text kind ++ codes "\n"

-- the line about one fault
abbrev pub fault_line : List NamedText → PartFault → List ℕ
fault_line parts fault =
    codes "initd: inittab " ++ place_text parts fault.part ++ line_text fault.line fault.kind

-- the lines about all faults
abbrev pub faults_text : List NamedText → List PartFault → List ℕ
faults_text parts faults = flat_map (fault_line parts) faults
