use Rattle.lsb_header.proofs.Words.{◌≡◌, ◌+◌, ◌<◌, ◌^◌, ◌++◌, [], length, map, lines_of, block_of, block_fault}
use Rattle.lsb_header.proofs.checks.check.Given as goal

abbrev pub invariant-loop-line : goal.invariant-loop-line
invariant-loop-line g l = record {
  counted : l.number + length l.rest < 2 ^ 64;
  texts : map (λ line. line.now) l.lines.items ++ block_of (lines_of l.rest) ≡ block_of (lines_of l.body);
  same : block_fault l.seen.items (l.number + 1) (block_of (lines_of l.rest))
      ≡ block_fault [] (l.begin + 1) (block_of (lines_of l.body));
}

abbrev pub decreases-loop-line : goal.decreases-loop-line
decreases-loop-line g l = length l.rest
