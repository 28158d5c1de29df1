use Rattle.child_table.proofs.Words.{rules, refl, ap, sym, ◌∙◌, map_same_pairs, CLOCK_LIMIT, after_enter, counts_of}
use Rattle.child_table.proofs.Words.{child_of, termed_of}
use Rattle.child_table.proofs.Changed.{timely_enter}
use Rattle.child_table.proofs.Counted.{same_counts}
use Rattle.child_table.proofs.Found.{all_written, distinct_mapped}
use Rattle.child_table.proofs.Indexes.{same_index}
use Rattle.child_table.proofs.slots.Slots.entered.Goals as goal

pub invariant_of-self : goal.invariant_of-self
invariant_of-self g c =
    let left = all_written after_enter c.self.inside.records.entries c.retain.new.self.entries c.args.self.now
    (λ s. refl) c.self.invariant.0 c.self.view_is
    (map_same_pairs _ after_enter _ (λ k v b w f t. search rules) _ _ c.retain.ensures.filtered) in (
      left.own,
      left.timely CLOCK_LIMIT (λ s kept. timely_enter CLOCK_LIMIT s kept) (rw c.self.view_is at c.self.invariant.1),
      c.self.invariant.2 ∙ ap counts_of c.self.view_is
          ∙ same_counts after_enter (λ s. refl) (λ s. refl) (λ s. refl) c.args.self.now
          ∙ sym (ap counts_of left.values),
      same_index child_of after_enter (λ s. refl) c.self.inside.children c.self.view_is left.values c.self.invariant.3,
      same_index termed_of after_enter (λ s. refl) c.self.inside.termed c.self.view_is left.values c.self.invariant.4,
      rw left.values (distinct_mapped after_enter (λ s. refl) c.args.self.now
          (rw c.self.view_is at c.self.invariant.5)),
    )

pub returns : goal.returns
returns g c = (all_written after_enter c.self.inside.records.entries c.retain.new.self.entries c.args.self.now
    (λ s. refl) c.self.invariant.0 c.self.view_is
    (map_same_pairs _ after_enter _ (λ k v b w f t. search rules) _ _ c.retain.ensures.filtered)).values
