use Rattle.trace_view.proofs.Words.{sym, subst, Viewed}
use Rattle.trace_view.proofs.views.TraceView.is_wanted.Goals as goal

pub returns : goal.returns
returns g c = λ past seen found.
    c.is_wanted.ensures past (subst (λ v. Viewed v past) (sym c.self.view_is) seen).judged found
