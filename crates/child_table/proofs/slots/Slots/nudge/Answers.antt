use Rattle.child_table.proofs.Words.{◌≡◌, rules, refl, ap, sym, ◌∙◌, arith, map, count_by, map_same_pairs, CLOCK_LIMIT}
use Rattle.child_table.proofs.Words.{SlotState, Counts, after_nudge, counts_of, child_of, termed_of, values_of}
use Rattle.child_table.proofs.Counted.{unmissed_counts}
use Rattle.child_table.proofs.Found.{all_written, distinct_mapped}
use Rattle.child_table.proofs.Indexes.{same_index}
use Rattle.child_table.proofs.Rounds.{begun_by_index}
use Rattle.child_table.proofs.Timely.{timely_map}
use Rattle.child_table.specs.Indexing.{begun_among}
use Rattle.child_table.proofs.slots.Slots.nudge.Goals as goal

-- the index of the children is used only if no signal missed a child
none_missed : (g : _) (c : goal.After-nudge_of g)
    → count_by (λ (s : SlotState). s.missed) (values_of c.self.inside.records.entries) ≡ 0
none_missed g c = sym (ap (λ (k : Counts). k.missed) c.self.invariant.2) ∙ omega (arith, c.if-self-eq0.true)

by_index : (g : _) (c : goal.After-nudge_of g)
    → values_of c.nudge_of.new.records.entries ≡ map after_nudge c.args.self.now
by_index g c =
    let slots = values_of c.self.inside.records.entries in
    c.nudge_of.ensures.values ∙ ap (λ cs. map (begun_among cs) slots) c.as_slice.ensures.value
    ∙ begun_by_index slots c.self.inside.children.items c.self.invariant.3.those (none_missed g c)
    ∙ ap (map after_nudge) c.self.view_is

pub invariant_of-self : goal.invariant_of-self
invariant_of-self g c =
    let values = by_index g c in (
      c.nudge_of.ensures.own,
      rw values
          (timely_map CLOCK_LIMIT after_nudge (λ s h. h) c.args.self.now
          (rw c.self.view_is at c.self.invariant.1)),
      c.self.invariant.2
          ∙ ap (λ missed. record (counts_of (values_of c.self.inside.records.entries)) { missed = missed })
          (none_missed g c) ∙ ap (λ slots. record (counts_of slots) { missed = 0 }) c.self.view_is
          ∙ unmissed_counts after_nudge (λ s. refl) (λ s. refl) (λ s. refl) c.args.self.now
          ∙ sym (ap counts_of values),
      same_index child_of after_nudge
          (λ s. refl) c.self.inside.children c.self.view_is values c.self.invariant.3,
      same_index termed_of after_nudge
          (λ s. refl) c.self.inside.termed c.self.view_is values c.self.invariant.4,
      rw values (distinct_mapped after_nudge (λ s. refl) c.args.self.now (rw c.self.view_is at c.self.invariant.5)),
    )

pub returns-then-len : goal.returns-then-len
returns-then-len g c = by_index g c

pub invariant_of-self-2 : goal.invariant_of-self-2
invariant_of-self-2 g c =
    let left = all_written after_nudge c.self.inside.records.entries c.retain.new.self.entries c.args.self.now
    (λ s. refl) c.self.invariant.0 c.self.view_is
    (map_same_pairs _ after_nudge _ (λ k v b w f t. search rules) _ _ c.retain.ensures.filtered) in (
      left.own,
      left.timely CLOCK_LIMIT (λ s kept. kept) (rw c.self.view_is at c.self.invariant.1),
      ap (λ (k : Counts). record k { missed = 0 }) (c.self.invariant.2 ∙ ap counts_of c.self.view_is)
          ∙ unmissed_counts after_nudge (λ s. refl) (λ s. refl) (λ s. refl) c.args.self.now
          ∙ sym (ap counts_of left.values),
      same_index child_of after_nudge
          (λ s. refl) c.self.inside.children c.self.view_is left.values c.self.invariant.3,
      same_index termed_of after_nudge
          (λ s. refl) c.self.inside.termed c.self.view_is left.values c.self.invariant.4,
      rw left.values (distinct_mapped after_nudge (λ s. refl) c.args.self.now
          (rw c.self.view_is at c.self.invariant.5)),
    )

pub returns : goal.returns
returns g c = (all_written after_nudge c.self.inside.records.entries c.retain.new.self.entries c.args.self.now
    (λ s. refl) c.self.invariant.0 c.self.view_is
    (map_same_pairs _ after_nudge _ (λ k v b w f t. search rules) _ _ c.retain.ensures.filtered)).values
