use Rattle.lsb_header.proofs.Words.{◌≡◌, ◌+◌, ◌≤◌, length, lines_of, block_of}
use Rattle.lsb_header.specs.Places.{next_line}
use Rattle.lsb_header.proofs.places.next_line.Given as goal

abbrev pub invariant-loop-line : goal.invariant-loop-line
invariant-loop-line l = record {
  counted : l.number + length l.rest ≤ l.before + length l.body;
  same : next_line l.keyword (l.number + 1) (block_of (lines_of l.rest))
      ≡ next_line l.keyword (l.before + 1) (block_of (lines_of l.body));
}

abbrev pub decreases-loop-line : goal.decreases-loop-line
decreases-loop-line l = length l.rest
