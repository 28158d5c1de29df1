use Rattle.std.proofs.Common.{◌≡◌, length}
use Rattle.trace_pieces.specs.Pieces.{name_at}
use Rattle.trace_pieces.proofs.names.name_at.Given as goal

abbrev pub invariant-loop-after : goal.invariant-loop-after
invariant-loop-after l = name_at l.name ≡ name_at l.path

abbrev pub decreases-loop-after : goal.decreases-loop-after
decreases-loop-after l = length l.name
