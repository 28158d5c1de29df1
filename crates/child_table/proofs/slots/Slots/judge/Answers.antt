use Rattle.child_table.proofs.Words.{rules, ap, sym, ◌∙◌, subst, length-map, map_same_pairs, count_by, CLOCK_LIMIT}
use Rattle.child_table.proofs.Words.{SlotState, after_judge, counts_of, is_stop_due, child_of, termed_of, IsIndex}
use Rattle.std.specs.Option.{is_some}
use Rattle.child_table.proofs.Changed.{child-after_judge, id-after_judge, order-after_judge, timely_judge}
use Rattle.child_table.proofs.Counted.{judged_counts}
use Rattle.child_table.proofs.Found.{all_written, distinct_mapped}
use Rattle.child_table.proofs.Indexes.{same_index}
use Rattle.child_table.proofs.slots.Slots.judge.Goals as goal

pub invariant_of-self : goal.invariant_of-self
invariant_of-self g c =
    let left = all_written
    (after_judge c.args.table.now c.args.stage) c.self.inside.records.entries c.retain.new.self.entries c.args.self.now
    (λ s. id-after_judge c.args.table.now c.args.stage s) c.self.invariant.0 c.self.view_is (map_same_pairs _
    (after_judge c.args.table.now c.args.stage) _ (λ k v b w f t. search rules) _ _ c.retain.ensures.filtered) in (
      left.own,
      left.timely CLOCK_LIMIT (λ s kept. timely_judge CLOCK_LIMIT c.args.table.now c.args.stage s kept)
          (rw c.self.view_is at c.self.invariant.1),
      judged_counts (after_judge c.args.table.now c.args.stage) (λ s. order-after_judge c.args.table.now c.args.stage s)
          c.args.self.now c.self.inside.counts _ _ _ (c.self.invariant.2 ∙ ap counts_of c.self.view_is)
          (c.count_excluded-self-inside.ensures ∙ ap (count_by (λ (s : SlotState). is_some s.stop))
          (c.as_slice-slots.ensures ∙ c.values.ensures.rest ∙ left.values))
          (c.count_due-self-inside.ensures ∙ ap (count_by (λ (s : SlotState). is_stop_due s.stop))
          (c.as_slice-slots.ensures ∙ c.values.ensures.rest ∙ left.values))
          (c.count_missed-self-inside.ensures ∙ ap (count_by (λ (s : SlotState). s.missed))
          (c.as_slice-slots.ensures ∙ c.values.ensures.rest ∙ left.values)) ∙ sym (ap counts_of left.values),
      same_index child_of (after_judge c.args.table.now c.args.stage) (λ s. child-after_judge c.args.table.now
          c.args.stage s) c.self.inside.children c.self.view_is left.values c.self.invariant.3,
      subst (λ slots. IsIndex termed_of slots c.index_termed.new.items)
          (c.as_slice-slots.ensures ∙ c.values.ensures.rest) c.index_termed.ensures,
      rw left.values (distinct_mapped (after_judge c.args.table.now c.args.stage)
          (λ s. id-after_judge c.args.table.now c.args.stage s) c.args.self.now
          (rw c.self.view_is at c.self.invariant.5)),
    )

pub returns : goal.returns
returns g c = (all_written
    (after_judge c.args.table.now c.args.stage) c.self.inside.records.entries c.retain.new.self.entries c.args.self.now
    (λ s. id-after_judge c.args.table.now c.args.stage s) c.self.invariant.0 c.self.view_is (map_same_pairs _
    (after_judge c.args.table.now c.args.stage) _ (λ k v b w f t. search rules) _ _ c.retain.ensures.filtered)).values

pub index_termed-requires : goal.index_termed-requires
index_termed-requires g c =
    let left = all_written
    (after_judge c.args.table.now c.args.stage) c.self.inside.records.entries c.retain.new.self.entries c.args.self.now
    (λ s. id-after_judge c.args.table.now c.args.stage s) c.self.invariant.0 c.self.view_is (map_same_pairs _
    (after_judge c.args.table.now c.args.stage) _ (λ k v b w f t. search rules) _ _ c.retain.ensures.filtered) in
    rw (
      c.as_slice-slots.ensures,
      c.values.ensures.rest,
      left.values,
      length-map c.args.self.now (after_judge c.args.table.now c.args.stage),
      ← c.self.view_is,
    ) c.self.invariant.4.room
