use Rattle.initview_command.proofs.Words.{Some, on_err}
use Rattle.initview_command.proofs.Followed.{if_err, if_ok, kept_first, kept_part, none_all, none_part}
use Rattle.initview_command.proofs.following.follow_last.Goals as goal

pub returns-in_err-reader-clause-err : goal.returns-in_err-reader-clause-err
returns-in_err-reader-clause-err g c =
    on_err c.from_residual.result _
    (none_part (Some c.args.count) (g.R.Read.remaining c.args.from.now) (g.S.LineSink.said c.args.out.now))

pub returns-in_default-clause-ok : goal.returns-in_default-clause-ok
returns-in_default-clause-ok g c =
    none_all (Some c.args.count) (g.R.Read.remaining c.args.from.now) (g.S.LineSink.said c.args.out.now)
    (rw c.in_default.is at c.in_ok-reader.ensures)

pub returns-in_err-take_there-clause-err : goal.returns-in_err-take_there-clause-err
returns-in_err-take_there-clause-err g c =
    on_err c.from_residual-in_err-take_there.result _
    (none_part (Some c.args.count) (g.R.Read.remaining c.args.from.now) (g.S.LineSink.said c.args.out.now))

pub returns-in_err-say-clause-err : goal.returns-in_err-say-clause-err
returns-in_err-say-clause-err g c =
    on_err c.from_residual-in_err-say.result _
    (kept_part c.args.count (g.R.Read.remaining c.args.from.now) (g.R.Read.remaining c.take_there.new.from)
    c.take_there.new.reader c.take_there.new.lines.items (g.S.LineSink.said c.args.out.now)
    (g.S.LineSink.said c.say.new.self)
    (c.in_ok-take_there.ensures (g.R.Read.remaining c.args.from.now) (rw c.deref_mut.ensures.value
    ((rw c.in-Some.is at c.in_ok-reader.ensures) c.args.count)))
    c.in_err-say.ensures.err)

pub returns-clause-ok : goal.returns-clause-ok
returns-clause-ok g c =
    if_ok _ _ c.write_lines.result
    (λ end. kept_first c.args.count (g.R.Read.remaining c.args.from.now) (g.R.Read.remaining c.take_there.new.from)
    c.take_there.new.reader c.take_there.new.lines.items (g.S.LineSink.said c.args.out.now)
    (g.S.LineSink.said c.say.new.self)
    (c.in_ok-take_there.ensures (g.R.Read.remaining c.args.from.now) (rw c.deref_mut.ensures.value
    ((rw c.in-Some.is at c.in_ok-reader.ensures) c.args.count)))
    _ c.deref_mut-2.ensures.value c.in_ok-say.ensures.ok _) c.write_lines.ensures.ok

pub returns-clause-err : goal.returns-clause-err
returns-clause-err g c =
    if_err _ _ c.write_lines.result
    (kept_first c.args.count (g.R.Read.remaining c.args.from.now) (g.R.Read.remaining c.take_there.new.from)
    c.take_there.new.reader c.take_there.new.lines.items (g.S.LineSink.said c.args.out.now)
    (g.S.LineSink.said c.say.new.self)
    (c.in_ok-take_there.ensures (g.R.Read.remaining c.args.from.now) (rw c.deref_mut.ensures.value
    ((rw c.in-Some.is at c.in_ok-reader.ensures) c.args.count)))
    _ c.deref_mut-2.ensures.value c.in_ok-say.ensures.ok _) c.write_lines.ensures.err
