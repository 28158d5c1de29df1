use Rattle.std.proofs.Common.{◌≡◌, length}
use Rattle.text_lines.specs.Lines.{lines_of}
use Rattle.trace_pieces.specs.Lists.{no_line, with_lines}
use Rattle.trace_pieces.proofs.lists.PieceList.read.Given as goal

abbrev pub invariant-loop-line : goal.invariant-loop-line
invariant-loop-line l = with_lines l.list (lines_of l.rest) ≡ with_lines no_line (lines_of l.text)

abbrev pub decreases-loop-line : goal.decreases-loop-line
decreases-loop-line l = length l.rest
