use Rattle.trace_view.proofs.Words.{◌≡◌, ◌∙◌, ◌∷◌, ◌++◌, [], ap, subst, sym, true, entry_of, is_distinct, Viewed}
use Rattle.trace_view.proofs.Words.{entry_id}
use Rattle.std.proofs.Common.{option_map}
use Rattle.trace_view.proofs.Awaited.{awaited_is, empty_is, found_last, none_awaited}
use Rattle.trace_view.proofs.views.TraceView.awaited.Goals as goal

pub returns-in-Some : goal.returns-in-Some
returns-in-Some g c = λ past seen.
    let judged = (subst (λ v. Viewed v past) (sym c.self.view_is) seen).judged in
    let last = c.in-Some.last.now in
    let front = c.in-Some._front.now in
    let table = c.table.result.now in
    let is : table ≡ front ++ last ∷ [] = sym c.entries.ensures.value ∙ c.in-Some.ensures.cases.0 in
    let now = c.table.ensures.value past judged in
    let apart : is_distinct (front ++ last ∷ []) ≡ true = ap is_distinct (sym is) ∙ c.table.ensures.distinct in
    c.id_or.ensures
    ∙ awaited_is past table front last c.id_of-before.result c.owes.result is now c.table.ensures.distinct
    (c.id_of-before.ensures ∙ ap (option_map entry_id) (c.first_owed.ensures past judged))
    (c.owes.ensures past seen (ap (entry_of last.id) (sym now ∙ is) ∙ found_last front last apart))

pub returns-in-None : goal.returns-in-None
returns-in-None g c = λ past seen.
    let judged = (subst (λ v. Viewed v past) (sym c.self.view_is) seen).judged in
    none_awaited past c.table.result.now (sym c.entries.ensures.value ∙ empty_is _ c.in-None.ensures.cases)
    (c.table.ensures.value past judged)
