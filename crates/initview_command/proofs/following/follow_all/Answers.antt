use Rattle.initview_command.proofs.Words.{None, on_err}
use Rattle.initview_command.proofs.Followed.{from_first, if_err, if_ok, none_part}
use Rattle.initview_command.proofs.following.follow_all.Goals as goal

pub returns-in_err-reader-clause-err : goal.returns-in_err-reader-clause-err
returns-in_err-reader-clause-err g c =
    on_err c.from_residual.result _
    (none_part None (g.R.Read.remaining c.args.from.now) (g.S.LineSink.said c.args.out.now))

pub returns-clause-ok : goal.returns-clause-ok
returns-clause-ok g c =
    if_ok _ _ c.write_lines.result
    (λ end. from_first (g.R.Read.remaining c.args.from.now) _ _ (g.S.LineSink.said c.args.out.now)
    c.deref_mut.ensures.value c.in_ok-reader.ensures.0 c.in_ok-reader.ensures.1 _) c.write_lines.ensures.ok

pub returns-clause-err : goal.returns-clause-err
returns-clause-err g c =
    if_err _ _ c.write_lines.result
    (from_first (g.R.Read.remaining c.args.from.now) _ _ (g.S.LineSink.said c.args.out.now)
    c.deref_mut.ensures.value c.in_ok-reader.ensures.0 c.in_ok-reader.ensures.1 _) c.write_lines.ensures.err
