use Rattle.std.proofs.Common.{◌≡◌, length}
use Rattle.std.specs.List.{list_any}
use Rattle.std.specs.Prelude.{is_some}
use Rattle.text_lines.specs.Lines.{lines_of}
use Rattle.trace_pieces.specs.Lists.{line_at}
use Rattle.trace_pieces.proofs.lists.is_list.Given as goal

abbrev pub invariant-loop-line : goal.invariant-loop-line
invariant-loop-line l =
    list_any (λ line. is_some (line_at line)) (lines_of l.rest)
    ≡ list_any (λ line. is_some (line_at line)) (lines_of l.text)

abbrev pub decreases-loop-line : goal.decreases-loop-line
decreases-loop-line l = length l.rest
