use Rattle.initview_lines.proofs.CommonWords.{◌++◌}
use Rattle.initview_lines.proofs.Follows.{more_said, all_said}
use Rattle.initview_lines.proofs.pieces.take_lines.Goals as goal

pub loop-preserved : goal.loop-preserved
loop-preserved c = λ past_lines text small taken.
    more_said c.in_ok-next_line.field-0 c.loop.view c.next_line.new.view (past_lines ++ c.loop.lines.items)
    (past_lines ++ c.next_line.new.lines.items) (text ++ c.args.piece.now) c.if-branch.true
    (c.in_ok-next_line.ensures.goes past_lines (text ++ c.args.piece.now) small)
    (c.loop.invariant past_lines text small taken)

pub returns : goal.returns
returns c = λ past_lines text small taken.
    all_said c.in_ok-next_line.field-0 c.loop.view c.next_line.new.view (past_lines ++ c.loop.lines.items)
    (past_lines ++ c.next_line.new.lines.items) (text ++ c.args.piece.now) c.if-branch.false
    (c.in_ok-next_line.ensures.goes past_lines (text ++ c.args.piece.now) small)
    (c.loop.invariant past_lines text small taken)
