use Rattle.initview_command.proofs.Words.{inl, inr, subst, Follows}
use Rattle.initview_command.proofs.Followed.{none_part}
use Rattle.initview_command.proofs.following.follow_file.Goals as goal

pub returns-in-Ok : goal.returns-in-Ok
returns-in-Ok g c =
    subst (λ input. Follows c.args.last input c.follow_text.result (g.S.LineSink.said c.args.out.now)
    (g.S.LineSink.said c.follow_text.new.out)) c.in-Ok.ensures c.follow_text.ensures

pub returns-in-Err : goal.returns-in-Err
returns-in-Err g c = inr (inl c.report_unread.ensures, none_part c.args.last _ (g.S.LineSink.said c.args.out.now))
