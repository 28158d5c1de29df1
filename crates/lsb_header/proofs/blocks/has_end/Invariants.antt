use Rattle.lsb_header.proofs.Words.{◌≡◌, length, list_any, lines_of, is_end}
use Rattle.lsb_header.proofs.blocks.has_end.Given as goal

abbrev pub invariant-loop-rest : goal.invariant-loop-rest
invariant-loop-rest l = list_any is_end (lines_of l.rest) ≡ list_any is_end (lines_of l.body)

abbrev pub decreases-loop-rest : goal.decreases-loop-rest
decreases-loop-rest l = length l.rest
