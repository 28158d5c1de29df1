use Rattle.trace_view.proofs.Words.{◌∙◌, sym, ap, subst, starts_in, Viewed}
use Rattle.trace_view.proofs.views.TraceView.starts.Goals as goal

pub returns : goal.returns
returns g c = λ past seen.
    let inside = subst (λ v. Viewed v past) (sym c.self.view_is) seen in
    c.starts_in.ensures ∙ ap (starts_in c.args.entry.now) (c.stage.ensures past inside.judged)
