use Rattle.trace_view.proofs.Words.{ap, Viewed, Wishes}
use Rattle.trace_view.proofs.views.TraceView.is_settled.Goals as goal

pub returns : goal.returns
returns g c = rw (← c.self.view_is) (λ past seen. ap (λ (w : Wishes). w.announced) seen.wishes)
