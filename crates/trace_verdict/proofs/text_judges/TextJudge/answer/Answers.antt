use Rattle.trace_verdict.proofs.Words.{refl, sym, subst, Answers, TextState}
use Rattle.trace_verdict.proofs.Judging.{told}
use Rattle.trace_verdict.proofs.text_judges.TextJudge.answer.Goals as goal

pub returns : goal.returns
returns g c = λ text small taken.
    subst (λ (s : TextState). Answers text s.finding c.open_line-open_line.result s.position) (sym c.self.view_is)
    (told c.args.self.now.finding c.args.self.now text c.open_line-open_line.result refl small taken
    c.open_line-open_line.ensures)
