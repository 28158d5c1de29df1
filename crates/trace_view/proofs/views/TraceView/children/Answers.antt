use Rattle.trace_view.proofs.Words.{◌∙◌, sym, subst, Viewed}
use Rattle.trace_view.proofs.views.TraceView.children.Goals as goal

pub returns : goal.returns
returns g c =
    λ past seen. c.in_ok-children.ensures ∙ (subst (λ v. Viewed v past) (sym c.self.view_is) seen).unreaped
