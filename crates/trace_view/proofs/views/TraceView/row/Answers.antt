use Rattle.trace_view.proofs.Words.{◌∙◌, sym, ap, subst, false, find, option_map_or, Entry, entry_of, is_child_of}
use Rattle.trace_view.proofs.Words.{Viewed}
use Rattle.trace_view.proofs.Words.{is_excluded_by, number_of}
use Rattle.std.proofs.Common.{option_map}
use Rattle.trace_view.proofs.Stands.{rows, lives_not}
use Rattle.trace_view.proofs.views.TraceView.row.Goals as goal

pub returns : goal.returns
returns g c = λ past seen.
    let inside = subst (λ v. Viewed v past) (sym c.self.view_is) seen in
    let tables = c.table-table.ensures.value past inside.judged in
    rows c.args.id.now past _ _ _ _ _ _ _ _
    (c.act_in.ensures
    ∙ ap (option_map (λ (e : Entry). e.act)) (c.get-entry.ensures.value ∙ ap (entry_of c.args.id.now) tables))
    (c.why.ensures past seen)
    (c.number_of.ensures
    ∙ ap (option_map number_of) (c.youngest_of.ensures ∙ ap (find (is_child_of c.args.id.now)) inside.unreaped))
    (c.is_child_excluded.ensures
    ∙ ap (λ o. option_map_or (is_excluded_by c.table-table.result.now c.stage-stage.result) o false)
    c.youngest_of-2.ensures
    ∙ lives_not c.args.id.now _ _ _ _ past tables (c.stage-stage.ensures past inside.judged) inside.unreaped)
    (c.of_id.ensures ∙ inside.births c.args.id.now)
    (c.order.ensures past inside.judged)
    (c.termed.ensures past inside.judged)
    (c.of_id-2.ensures ∙ inside.ends c.args.id.now)
