use Rattle.child_table.proofs.Words.{◌≡◌, ap, subst, true, sym, ◌∙◌, option_copied_mut, CLOCK_LIMIT, can_ask}
use Rattle.child_table.proofs.Words.{can_ask_of, after_order, counts_of, child_of, termed_of}
use Rattle.init_words.proofs.Tests.{both_ways}
use Rattle.child_table.proofs.Changed.{child-after_order, id-after_order, termed-after_order}
use Rattle.child_table.proofs.Counted.{few_kept, found_within, recount}
use Rattle.child_table.proofs.Found.{absent_in, distinct_changed, found_in, written}
use Rattle.child_table.proofs.Timely.{timely_found, timely_order}
use Rattle.child_table.proofs.Indexes.{same_index_at}
use Rattle.child_table.proofs.slots.Slots.ask.Goals as goal

pub unreachable-requires : goal.unreachable-requires
unreachable-requires g c =
    let none = absent_in c.args.id _ c.self.inside.records.entries c.args.self.now c.self.invariant.0 c.self.view_is
    c.get_mut.ensures.value (ap option_copied_mut c.in_default.is) in
    both_ways (can_ask c.args.id c.args.ask c.args.now c.args.self.now) c.requires.allowed
    (ap (can_ask_of c.args.ask c.args.now) none)

pub note_order-requires-clause-allowed : goal.note_order-requires-clause-allowed
note_order-requires-clause-allowed g c =
    subst (λ o. can_ask_of c.args.ask c.args.now o ≡ true)
    (found_in c.args.id c.in-Some.slot.now c.self.inside.records.entries c.args.self.now c.self.invariant.0
    c.self.view_is c.in-Some.ensures.value) c.requires.allowed

pub note_order-requires-clause-timely : goal.note_order-requires-clause-timely
note_order-requires-clause-timely g c =
    timely_found c.args.now c.args.id c.in-Some.slot.now c.args.self.now c.requires.timely
    (found_in c.args.id c.in-Some.slot.now c.self.inside.records.entries c.args.self.now c.self.invariant.0
    c.self.view_is c.in-Some.ensures.value)

pub subtract-requires : goal.subtract-requires
subtract-requires g c = rw (c.of.ensures, c.self.invariant.2, c.self.view_is)
    (found_within c.args.id c.in-Some.slot.now c.args.self.now (found_in c.args.id c.in-Some.slot.now
    c.self.inside.records.entries c.args.self.now c.self.invariant.0 c.self.view_is c.in-Some.ensures.value))

pub add-requires : goal.add-requires
add-requires g c = (recount c.self.inside.records c.args.id
    (after_order c.args.ask c.args.now) c.in-Some.slot.now c.note_order.new.self c.args.self.now c.self.inside.counts
    c.of.result c.subtract.new.self c.of-2.result c.self.invariant.0 c.get_mut.ensures.unique
    (few_kept c.self.inside.records.entries _ c.self.invariant.3.room c.self.inside.children.small)
    c.self.view_is c.in-Some.ensures.value c.self.invariant.2 c.of.ensures
    c.subtract.ensures c.note_order.ensures c.of-2.ensures).small

pub invariant_of-self : goal.invariant_of-self
invariant_of-self g c =
    let left = written c.args.id (after_order c.args.ask c.args.now) c.in-Some.slot.now c.note_order.new.self
    c.self.inside.records (c.get_mut.follows.lender c.note_order.new.self) c.args.self.now
    (λ s. id-after_order c.args.ask c.args.now s) c.self.invariant.0 c.get_mut.ensures.unique c.self.view_is
    c.in-Some.ensures.value c.note_order.ensures (c.get_mut.follows.holds c.note_order.new.self) in (
      left.own,
      left.timely CLOCK_LIMIT (λ s kept. timely_order c.args.ask c.args.now CLOCK_LIMIT c.requires.limit s kept)
          (rw c.self.view_is at c.self.invariant.1),
      c.add.ensures ∙ (recount c.self.inside.records c.args.id
          (after_order c.args.ask c.args.now) c.in-Some.slot.now c.note_order.new.self c.args.self.now
          c.self.inside.counts
          c.of.result c.subtract.new.self c.of-2.result c.self.invariant.0 c.get_mut.ensures.unique
          (few_kept c.self.inside.records.entries _ c.self.invariant.3.room c.self.inside.children.small)
          c.self.view_is c.in-Some.ensures.value c.self.invariant.2
          c.of.ensures c.subtract.ensures c.note_order.ensures c.of-2.ensures).exact ∙ sym (ap counts_of left.values),
      same_index_at child_of c.args.id (after_order c.args.ask c.args.now) (λ s.
          child-after_order c.args.ask c.args.now s) c.self.inside.children c.self.view_is left.values
          c.self.invariant.3,
      same_index_at termed_of c.args.id (after_order c.args.ask c.args.now) (λ s.
          termed-after_order c.args.ask c.args.now s) c.self.inside.termed c.self.view_is left.values
          c.self.invariant.4,
      rw left.values (distinct_changed c.args.id (after_order c.args.ask c.args.now)
          (λ s. id-after_order c.args.ask c.args.now s) c.args.self.now (rw c.self.view_is at c.self.invariant.5)),
    )

pub returns : goal.returns
returns g c = (written c.args.id (after_order c.args.ask c.args.now) _ _ _ _ _
    (λ s. id-after_order c.args.ask c.args.now s) c.self.invariant.0 c.get_mut.ensures.unique c.self.view_is
    c.in-Some.ensures.value c.note_order.ensures (c.get_mut.follows.holds c.note_order.new.self)).values
