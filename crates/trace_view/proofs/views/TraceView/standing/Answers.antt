use Rattle.trace_view.proofs.Words.{◌∙◌, ap, cond, false, find, subst, None, list_any, option_map_or, is_child_of}
use Rattle.trace_view.proofs.Words.{starts_in}
use Rattle.trace_view.proofs.Words.{is_born_as, is_named_by, Viewed, Wishes, number_of, is_excluded_by, entry_id}
use Rattle.std.proofs.Common.{option_map}
use Rattle.trace_view.proofs.Stands.{stands, excluded_is, lives_not, wish_is, held_is, full_is}
use Rattle.trace_view.proofs.views.TraceView.standing.Goals as goal

pub returns : goal.returns
returns g c = rw (← c.self.view_is) (λ past seen found.
    let judged = seen.judged in
    let on = c.stage-stage.ensures past judged in
    stands c.args.entry.now past _ _ _ _ _ _ _ _ _ _ _ _ _ _
    (c.starts_in.ensures ∙ ap (starts_in c.args.entry.now) on)
    (c.number_of.ensures
    ∙ ap (option_map number_of) (c.youngest_of.ensures ∙ ap (find (is_child_of c.args.entry.now.id)) seen.kept))
    (c.is_child_excluded.ensures
    ∙ ap (λ o. option_map_or (is_excluded_by c.table-table.result.now c.stage-stage.result) o false)
    c.youngest_of-2.ensures ∙ lives_not c.args.entry.now.id _ _ _ _ past (c.table-table.ensures.value past judged) on
    seen.kept)
    (ap (λ (w : Wishes). w.booted) seen.wishes)
    (c.has_born_as.ensures ∙ ap (list_any (is_born_as c.args.entry.now)) (c.as_slice.ensures.value ∙ seen.early))
    (c.awaited.ensures past (subst (λ v. Viewed v past) c.self.view_is seen))
    (c.order.ensures past judged)
    (c.is_wanted.ensures past judged found)
    (c.is_named.ensures ∙ ap (is_named_by c.args.entry.now) seen.calls)
    (c.id_of.ensures ∙ ap (option_map entry_id) (c.first_owed.ensures past judged))
    (c.excluded.ensures ∙ excluded_is _ _ _ past (c.table-table.ensures.value past judged) on seen.kept)
    (c.first.ensures ∙ wish_is _ _ past on seen.wishes)
    (c.only_if.ensures ∙ ap (λ b. cond b c.held_since-since.result None) c.both-holds.ensures
    ∙ held_is _ _ _ c.args.entry.now past c.is_limited-limited.ensures (c.is_held-held.ensures past judged)
    (c.held_since-since.ensures past judged))
    (c.both-fills.ensures
    ∙ full_is _ _ c.args.entry.now past c.is_limited-limited.ensures (c.is_full-full.ensures past judged)))
