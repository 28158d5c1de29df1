use Rattle.initd_command.proofs.Words.{refl, sym, subst, Keeps-refl, TraceJudgement, torn, EndsFound, judged_of}
use Rattle.initd_command.proofs.check.tell_finding.Goals as goal

pub returns-in-Torn : goal.returns-in-Torn
returns-in-Torn g c =
    let judged : TraceJudgement = judged_of c.args.judged in (
      torn c.in-Torn.number,
      c.report_torn.ensures.status,
      subst (λ finding. EndsFound finding judged (torn c.in-Torn.number) (g.W.Write.contents c.args.out.now)
          (g.W.Write.contents c.args.out.now)) (sym c.in-Torn.is)
          (refl, Keeps-refl (g.W.Write.contents c.args.out.now)),
      c.report_torn.ensures.reported,
    )
