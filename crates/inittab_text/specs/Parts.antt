-- The table and the faults of an inittab that consists of several texts (inittab(5)).
use Rattle.std.specs.Prelude.{ℕ, Bool, ◌&&◌, nat_le, ◌+◌, ◌<◌, ◌≤◌, List, [], ◌∷◌, ◌++◌, map, length}
use Rattle.init_words.specs.declared.entries.Entry.{Entry}
use Rattle.inittab_text.specs.declared.faults.LineFault.{LineFault}
use Rattle.inittab_text.specs.declared.faults.PartFault.{PartFault}
use Rattle.inittab_text.specs.declared.parts.TheConstants.{PART_LIMIT}
use Rattle.inittab_text.specs.declared.reading.TheConstants.{TEXT_LIMIT}
use Rattle.text_lines.specs.Lines.{lines_of}
use Rattle.inittab_text.specs.Reading.{entries_from, faults_from}

-- the given entries, followed by those read from the texts; a line never spans two texts
abbrev pub entries_of_texts : List Entry → List (List ℕ) → List Entry
entries_of_texts before [] = before
entries_of_texts before (text ∷ texts) = entries_of_texts (entries_from before (lines_of text)) texts

-- the fault of a line, with the number of its part
abbrev pub in_part : ℕ → LineFault → PartFault
in_part part fault = record { part = part; line = fault.line; kind = fault.kind }

-- the faults of the texts that follow these entries; parts are numbered from `part`, and the lines of each text from 1
abbrev pub faults_of_texts : List Entry → ℕ → List (List ℕ) → List PartFault
faults_of_texts before part [] = []
faults_of_texts before part (text ∷ texts) =
    map (in_part part) (faults_from before 1 (lines_of text))
    ++ faults_of_texts (entries_from before (lines_of text)) (part + 1) texts

-- the table that consists of the entries of all texts
abbrev pub table_of_texts : List (List ℕ) → List Entry
table_of_texts texts = entries_of_texts [] texts

-- the faults of the texts, in order; parts are numbered from 0
abbrev pub faults_of_parts : List (List ℕ) → List PartFault
faults_of_parts texts = faults_of_texts [] 0 texts

-- the number of bytes in all texts together
abbrev pub size_of_texts : List (List ℕ) → ℕ
size_of_texts [] = 0
size_of_texts (text ∷ texts) = length text + size_of_texts texts

-- there are more texts than the maximum number of parts
abbrev pub AreTooMany : List (List ℕ) → Type 0
AreTooMany texts = PART_LIMIT < length texts

-- there are not too many texts, but together they are too long
abbrev pub AreTooLong : List (List ℕ) → Type 0
AreTooLong texts = (length texts ≤ PART_LIMIT) × (TEXT_LIMIT < size_of_texts texts)

-- the texts can be read as a table: they are neither too many nor too long
abbrev pub are_readable : List (List ℕ) → Bool
are_readable texts = nat_le (length texts) PART_LIMIT && nat_le (size_of_texts texts) TEXT_LIMIT
