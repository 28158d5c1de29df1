use Rattle.trace_view.proofs.Words.{◌∙◌, sym, ap, subst, find, is_child_of, starts_in, stage_of, number_of, why_by}
use Rattle.trace_view.proofs.Words.{Viewed}
use Rattle.std.proofs.Common.{option_map}
use Rattle.trace_view.proofs.Stands.{kept_here}
use Rattle.trace_view.proofs.views.TraceView.why_of.Goals as goal

pub returns-in-Some : goal.returns-in-Some
returns-in-Some g c = λ past seen found.
    let inside = subst (λ v. Viewed v past) (sym c.self.view_is) seen in
    kept_here c.args.entry.now past _ _ c.in-Some.child
    (c.starts_in.ensures ∙ ap (starts_in c.args.entry.now) (c.stage-stage.ensures past inside.judged))
    (c.number_of-kept.ensures
    ∙ ap (option_map number_of) (c.youngest_of.ensures ∙ ap (find (is_child_of c.args.entry.now.id)) inside.kept))
    (sym c.in-Some.is ∙ c.only_if.ensures)

pub returns-in-None : goal.returns-in-None
returns-in-None g c = λ past seen found.
    let inside = subst (λ v. Viewed v past) (sym c.self.view_is) seen in
    c.why_by.ensures
    ∙ ap (λ s. why_by c.args.entry.now.act s c.standing.result) (c.stage-stage.ensures past inside.judged)
    ∙ ap (why_by c.args.entry.now.act (stage_of past)) (c.standing.ensures past seen found)
