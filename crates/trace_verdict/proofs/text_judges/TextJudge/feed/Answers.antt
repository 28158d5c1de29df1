use Rattle.trace_verdict.proofs.Words.{◌∙◌, sym, ap, TextState}
use Rattle.trace_verdict.proofs.Judging.{still_torn}
use Rattle.trace_verdict.proofs.text_judges.TextJudge.feed.Goals as goal

pub returns-in-Torn-clause-ok : goal.returns-in-Torn-clause-ok
returns-in-Torn-clause-ok g c = λ text taken.
    still_torn c.args.self.now.finding c.args.self.now text c.args.piece.now c.in-Torn.field-0
    (sym (ap (λ (s : TextState). s.finding) c.self.view_is) ∙ c.in-Torn.is) taken
