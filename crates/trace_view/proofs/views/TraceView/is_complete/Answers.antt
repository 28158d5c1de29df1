use Rattle.trace_view.proofs.Words.{◌∙◌, sym, ap, subst, complete_in, Viewed}
use Rattle.trace_view.proofs.views.TraceView.is_complete.Goals as goal

pub returns-in-Some : goal.returns-in-Some
returns-in-Some g c = λ past seen.
    let judged = (subst (λ v. Viewed v past) (sym c.self.view_is) seen).judged in
    c.completes.ensures past seen ∙ ap (λ s. complete_in s past) (sym c.in-Some.is ∙ c.stage.ensures past judged)

pub returns-in-None : goal.returns-in-None
returns-in-None g c = λ past seen.
    let judged = (subst (λ v. Viewed v past) (sym c.self.view_is) seen).judged in
    ap (λ s. complete_in s past) (sym c.in-None.is ∙ c.stage.ensures past judged)
