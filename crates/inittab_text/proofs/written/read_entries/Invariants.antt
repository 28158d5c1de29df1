use Rattle.inittab_text.proofs.Words.{◌≡◌, length, lines_of, entries_from, table_of_text}
use Rattle.inittab_text.proofs.written.read_entries.Given as goal

abbrev pub invariant-loop-rest : goal.invariant-loop-rest
invariant-loop-rest g l = entries_from l.table (lines_of l.rest) ≡ table_of_text l.text

abbrev pub decreases-loop-rest : goal.decreases-loop-rest
decreases-loop-rest g l = length l.rest
