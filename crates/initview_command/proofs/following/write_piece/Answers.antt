use Rattle.initview_command.proofs.Words.{on_err}
use Rattle.initview_command.proofs.Followed.{piece_part, piece_unseen, piece_written}
use Rattle.initview_command.proofs.following.write_piece.Goals as goal

pub returns-in_err-take_piece-clause-err : goal.returns-in_err-take_piece-clause-err
returns-in_err-take_piece-clause-err g c =
    on_err c.from_residual.result _ (λ start text small has. piece_unseen start c.args.reader.now text c.args.piece.now
    (g.S.LineSink.said c.args.out.now) small has)

pub returns-in_err-say-clause-err : goal.returns-in_err-say-clause-err
returns-in_err-say-clause-err g c =
    on_err c.from_residual-in_err-say.result _ (λ start text small has. piece_part start c.args.reader.now
    c.take_piece.new.reader text c.args.piece.now c.new-lines.result.items c.take_piece.new.lines.items
    (g.S.LineSink.said
    c.args.out.now) (g.S.LineSink.said c.say.new.self) c.new-lines.ensures.items small c.in_ok-take_piece.ensures.same
    c.in_ok-take_piece.ensures.lines
    c.in_err-say.ensures.err has)

pub returns-clause-ok : goal.returns-clause-ok
returns-clause-ok g c = λ start text small has.
    piece_written start c.args.reader.now c.take_piece.new.reader text c.args.piece.now c.new-lines.result.items
    c.take_piece.new.lines.items (g.S.LineSink.said c.args.out.now)
    (g.S.LineSink.said c.say.new.self) c.new-lines.ensures.items small c.in_ok-take_piece.ensures.same
    c.in_ok-take_piece.ensures.lines
    c.in_ok-say.ensures.ok has
