use Rattle.initview_command.proofs.Words.{inr}
use Rattle.initview_command.proofs.Followed.{part_still}
use Rattle.initview_command.proofs.following.follow_text.Goals as goal

pub returns-in-Err : goal.returns-in-Err
returns-in-Err g c =
    inr (
      c.report_fault.ensures.ends,
      part_still c.args.last _ (g.S.LineSink.said c.args.out.now) (g.S.LineSink.said c.follow.new.out)
          (g.S.LineSink.said c.report_fault.new.out) c.in-Err.ensures.err c.report_fault.ensures.said,
    )
