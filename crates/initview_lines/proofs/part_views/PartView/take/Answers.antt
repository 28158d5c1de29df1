use Rattle.initview_lines.proofs.CommonWords.{◌++◌}
use Rattle.initview_lines.proofs.Parts.{more_told, all_told}
use Rattle.initview_lines.proofs.part_views.PartView.take.Goals as goal

pub loop-preserved : goal.loop-preserved
loop-preserved c = λ past_lines text small told.
    more_told c.in_ok-tell_next.field-0 c.loop.self c.tell_next.new.self (past_lines ++ c.loop.lines.items)
    (past_lines ++ c.tell_next.new.lines.items) (text ++ c.args.piece.now) c.if-branch.true
    (c.in_ok-tell_next.ensures.goes past_lines (text ++ c.args.piece.now) small)
    (c.loop.invariant past_lines text small told)

pub returns : goal.returns
returns c = λ past_lines text small told.
    all_told c.in_ok-tell_next.field-0 c.loop.self c.tell_next.new.self (past_lines ++ c.loop.lines.items)
    (past_lines ++ c.tell_next.new.lines.items) (text ++ c.args.piece.now) c.if-branch.false
    (c.in_ok-tell_next.ensures.goes past_lines (text ++ c.args.piece.now) small)
    (c.loop.invariant past_lines text small told)
