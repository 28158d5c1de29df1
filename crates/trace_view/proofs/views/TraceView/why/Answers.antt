use Rattle.trace_view.proofs.Words.{◌∙◌, ◌≡◌, sym, ap, subst, option_copied, Some, entry_of, table_of, Viewed}
use Rattle.trace_view.proofs.Stands.{found_own, why_found, why_none}
use Rattle.trace_view.proofs.views.TraceView.why.Goals as goal

pub returns-in-Some : goal.returns-in-Some
returns-in-Some g c = λ past seen.
    let inside = subst (λ v. Viewed v past) (sym c.self.view_is) seen in
    let found : entry_of c.args.id.now (table_of past) ≡ Some c.in-Some.entry.now = ap (entry_of c.args.id.now)
    (sym (c.table.ensures.value past inside.judged)) ∙ sym c.get.ensures.value ∙ ap option_copied c.in-Some.is in
    c.why_of.ensures past seen (found_own c.args.id.now (table_of past) c.in-Some.entry.now found)
    ∙ why_found c.args.id.now past c.in-Some.entry.now found

pub returns-in-None : goal.returns-in-None
returns-in-None g c = λ past seen.
    let inside = subst (λ v. Viewed v past) (sym c.self.view_is) seen in
    why_none c.args.id.now past (ap (entry_of c.args.id.now) (sym (c.table.ensures.value past inside.judged))
    ∙ sym c.get.ensures.value ∙ ap option_copied c.in-None.is)
