use Rattle.lsb_header.proofs.Words.{◌≡◌, ◌+◌, ◌≤◌, length, lines_of, find_header}
use Rattle.lsb_header.proofs.blocks.find_header.Given as goal

abbrev pub invariant-loop-rest : goal.invariant-loop-rest
invariant-loop-rest l = record {
  counted : l.number + length l.rest ≤ length l.text;
  same : find_header (l.number + 1) (lines_of l.rest) ≡ find_header 1 (lines_of l.text);
}

abbrev pub decreases-loop-rest : goal.decreases-loop-rest
decreases-loop-rest l = length l.rest
