-- The table and the faults of a text (inittab(5)).
use Rattle.std.specs.Prelude.{ℕ, ◌+◌, List, [], ◌∷◌, ◌++◌, Option, Some, None, Result, Ok, Err}
use Rattle.init_words.specs.declared.entries.Entry.{Entry}
use Rattle.inittab_text.specs.declared.faults.LineKind.{LineKind}
use Rattle.inittab_text.specs.declared.faults.LineFault.{LineFault}
use Rattle.text_lines.specs.Lines.{lines_of}
use Rattle.inittab_text.specs.Checks.{verdict_of}

-- the entries after one more line is read: one more than before if the line is an entry
abbrev pub entries_after : List Entry → Result (Option Entry) LineKind → List Entry
entries_after before (Ok (Some e)) = before ++ e ∷ []
entries_after before (Ok None) = before
entries_after before (Err kind) = before

-- the fault of the line with this number, if it has one
abbrev pub faults_at : ℕ → Result (Option Entry) LineKind → List LineFault
faults_at number (Ok kept) = []
faults_at number (Err kind) = record { line = number; kind = kind } ∷ []

-- the given entries, followed by those read from the lines
abbrev pub entries_from : List Entry → List (List ℕ) → List Entry
entries_from before [] = before
entries_from before (line ∷ lines) = entries_from (entries_after before (verdict_of before line)) lines

-- the faults of the lines that follow these entries; lines are numbered from `number`
abbrev pub faults_from : List Entry → ℕ → List (List ℕ) → List LineFault
faults_from before number [] = []
faults_from before number (line ∷ lines) =
    let verdict = verdict_of before line in
    faults_at number verdict ++ faults_from (entries_after before verdict) (number + 1) lines

-- the table read from a text
abbrev pub table_of_text : List ℕ → List Entry
table_of_text text = entries_from [] (lines_of text)

-- the faults of a text, in line order; lines are counted from 1
abbrev pub faults_of_text : List ℕ → List LineFault
faults_of_text text = faults_from [] 1 (lines_of text)
