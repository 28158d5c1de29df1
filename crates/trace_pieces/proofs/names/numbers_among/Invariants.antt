use Rattle.std.proofs.Common.{◌≡◌, ◌++◌, length}
use Rattle.trace_pieces.specs.Pieces.{numbers_among}
use Rattle.trace_pieces.proofs.names.numbers_among.Given as goal

abbrev pub invariant-loop-name : goal.invariant-loop-name
invariant-loop-name l = l.numbers.items ++ numbers_among l.trace l.rest ≡ numbers_among l.trace l.names

abbrev pub decreases-loop-name : goal.decreases-loop-name
decreases-loop-name l = length l.rest
