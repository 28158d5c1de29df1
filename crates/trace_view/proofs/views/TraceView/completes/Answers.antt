use Rattle.trace_view.proofs.Words.{◌∙◌, sym, ap, subst, Some, complete_in, Viewed}
use Rattle.trace_view.proofs.views.TraceView.completes.Goals as goal

pub returns-in-Run : goal.returns-in-Run
returns-in-Run g c = λ past seen.
    let judged = (subst (λ v. Viewed v past) (sym c.self.view_is) seen).judged in
    c.is_settled.ensures past judged ∙ ap (λ s. complete_in (Some s) past) (sym c.in-Run.is)
