use Rattle.trace_view.proofs.Words.{◌∙◌, sym, ap, subst, find, is_child_of, number_of, Viewed}
use Rattle.std.proofs.Common.{option_map}
use Rattle.trace_view.proofs.views.TraceView.child.Goals as goal

pub returns : goal.returns
returns g c = λ past seen.
    c.number_of.ensures ∙ ap (option_map number_of) (c.youngest_of.ensures
    ∙ ap (find (is_child_of c.args.id.now)) (subst (λ v. Viewed v past) (sym c.self.view_is) seen).unreaped)
