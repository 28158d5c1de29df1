use Rattle.trace_view.proofs.Words.{◌∙◌, sym, ap, subst, table_of, Viewed}
use Rattle.trace_view.specs.Rows.{gone_ids}
use Rattle.trace_view.proofs.views.TraceView.gone.Goals as goal

pub returns : goal.returns
returns g c = λ past seen.
    let inside = subst (λ v. Viewed v past) (sym c.self.view_is) seen in
    c.in_ok-gone.ensures ∙ ap (λ table. gone_ids table c.as_slice.result.now) (c.table.ensures.value past inside.judged)
    ∙ ap (gone_ids (table_of past)) (c.as_slice.ensures.value ∙ c.in_ok-children.ensures ∙ inside.unreaped)
