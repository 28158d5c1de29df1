use Rattle.inittab_text.proofs.Words.{◌≡◌, ◌++◌, ◌+◌, ◌≤◌, length, TEXT_LIMIT, lines_of, entries_from, faults_from}
use Rattle.inittab_text.proofs.reading.take_text.Given as goal

abbrev pub invariant-loop-rest : goal.invariant-loop-rest
invariant-loop-rest g l = record {
  counted : l.number + length l.rest ≤ TEXT_LIMIT;
  table : entries_from l.table (lines_of l.rest) ≡ entries_from l.fn.table (lines_of l.text);
  faults : l.faults.items ++ faults_from l.table (l.number + 1) (lines_of l.rest)
      ≡ faults_from l.fn.table 1 (lines_of l.text);
}

abbrev pub decreases-loop-rest : goal.decreases-loop-rest
decreases-loop-rest g l = length l.rest
