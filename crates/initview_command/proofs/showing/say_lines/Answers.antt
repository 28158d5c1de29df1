use Rattle.initview_command.proofs.Words.{inr, front_still}
use Rattle.initview_command.proofs.showing.say_lines.Goals as goal

pub returns-in-Err : goal.returns-in-Err
returns-in-Err g c =
    inr (
      c.report_unsaid.ensures.ends,
      front_still (g.S.LineSink.said c.args.out.now) (g.S.LineSink.said c.say.new.self)
          (g.S.LineSink.said c.report_unsaid.new.out)
          c.args.lines.items c.in-Err.ensures.err c.report_unsaid.ensures.said,
    )
