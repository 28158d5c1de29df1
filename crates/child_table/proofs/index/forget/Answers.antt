use Rattle.child_table.proofs.Words.{not, rules, slice_get, ap, sym, ◌∙◌, same_id, Keyed, is_for}
use Rattle.std.proofs.lemmas.Fn.{filter_same}
use Rattle.child_table.proofs.Forgotten.{none_for, removed_at}
use Rattle.child_table.proofs.Sorted.{sorted_filter}
use Rattle.child_table.proofs.index.forget.Goals as goal

pub returns-in_default-clause-items : goal.returns-in_default-clause-items
returns-in_default-clause-items g c =
    sym (none_for c.args.id.now c.args.items.now.items (rw c.in_default.is at c.requires.one))

pub returns-then-position-len-clause-items : goal.returns-then-position-len-clause-items
returns-then-position-len-clause-items g c = filter_same _ (λ (d : Keyed). not (same_id c.args.id.now d.id)) _
    (λ x b f h. search rules) _ _ c.retain.ensures.filtered

pub returns-then-position-len-clause-sorted : goal.returns-then-position-len-clause-sorted
returns-then-position-len-clause-sorted g c = rw (filter_same _ (λ (d : Keyed). not (same_id c.args.id.now d.id)) _
    (λ x b f h. search rules) _ _ c.retain.ensures.filtered)
    (sorted_filter (λ (d : Keyed). not (same_id c.args.id.now d.id)) c.args.items.now.items c.requires.sorted)

pub returns-clause-items : goal.returns-clause-items
returns-clause-items g c = c.remove.ensures.items ∙ removed_at c.args.id.now c.args.items.now.items
    c.first_from-position.result (ap (λ cs. is_for c.args.id.now (slice_get cs c.first_from-position.result))
    (sym c.as_slice-else-position-len.ensures.value) ∙ sym c.if-not-is_for.ensures) (rw c.in-Some.is at c.requires.one)

pub returns-clause-sorted : goal.returns-clause-sorted
returns-clause-sorted g c = rw (c.remove.ensures.items ∙ removed_at c.args.id.now c.args.items.now.items
    c.first_from-position.result (ap (λ cs. is_for c.args.id.now (slice_get cs c.first_from-position.result))
    (sym c.as_slice-else-position-len.ensures.value) ∙ sym c.if-not-is_for.ensures) (rw c.in-Some.is at c.requires.one))
    (sorted_filter (λ (d : Keyed). not (same_id c.args.id.now d.id)) c.args.items.now.items c.requires.sorted)
