use Rattle.initd_command.proofs.Words.{◌≡◌, ◌∙◌, refl, sym, subst, Some, Keeps-refl, TraceJudgement, unfinished, cut_at}
use Rattle.initd_command.proofs.Words.{judged_of, verdict_of}
use Rattle.initd_command.specs.Verdicts.{EndsTold}
use Rattle.initd_command.proofs.check.tell_text.Goals as goal

pub returns-in-Some : goal.returns-in-Some
returns-in-Some g c =
    let judged : TraceJudgement = judged_of c.args.judged in
    let out = g.W.Write.contents c.args.out.now in
    let ending = unfinished c.in-Some.line (verdict_of c.args.finding.now) in
    let cut : cut_at c.args.growing c.args.judged.open_line ≡ Some c.in-Some.line =
    sym c.cut_at.ensures ∙ c.in-Some.is in (
      ending,
      c.report_unfinished.ensures.status,
      subst (λ at. EndsTold at c.args.finding.now judged ending out out) (sym cut) (refl, refl, Keeps-refl out),
      c.report_unfinished.ensures.reported,
    )
