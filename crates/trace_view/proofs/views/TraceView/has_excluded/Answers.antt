use Rattle.trace_view.proofs.Words.{◌∙◌, sym, ap, subst, false, option_map_or, Viewed, is_excluded_by}
use Rattle.trace_view.proofs.Stands.{lives_not}
use Rattle.trace_view.proofs.views.TraceView.has_excluded.Goals as goal

pub returns : goal.returns
returns g c = λ past seen.
    let inside = subst (λ v. Viewed v past) (sym c.self.view_is) seen in
    let tables = c.table-table.ensures.value past inside.judged in
    c.is_child_excluded.ensures
    ∙ ap (λ o. option_map_or (is_excluded_by c.table-table.result.now c.stage-stage.result) o false)
    c.youngest_of.ensures
    ∙ lives_not c.args.id.now _ _ _ _ past tables (c.stage-stage.ensures past inside.judged) inside.unreaped
