use Rattle.child_table.proofs.Words.{sym, same_id, CLOCK_LIMIT, child_of, termed_of}
use Rattle.child_table.proofs.Counted.{found_within, removed_counts}
use Rattle.child_table.proofs.Found.{distinct_without, found_in, removed}
use Rattle.child_table.proofs.Forgotten.{item_before}
use Rattle.child_table.proofs.Keys.{own_child, own_termed}
use Rattle.child_table.proofs.Indexes.{removed_index}
use Rattle.child_table.proofs.slots.Slots.remove.Goals as goal

pub subtract-requires : goal.subtract-requires
subtract-requires g c = rw (c.of.ensures, c.self.invariant.2, c.self.view_is)
    (found_within c.args.id c.in-Some.slot c.args.self.now (found_in c.args.id c.in-Some.slot
    c.self.inside.records.entries c.args.self.now c.self.invariant.0 c.self.view_is c.in-Some.ensures.value))

pub forget-requires-clause-one : goal.forget-requires-clause-one
forget-requires-clause-one g c = item_before child_of own_child c.args.id c.in-Some.slot c.self.inside.children
    c.child_of.result c.self.view_is
    (rw c.self.view_is at c.self.invariant.5) (found_in c.args.id c.in-Some.slot c.self.inside.records.entries
    c.args.self.now c.self.invariant.0 c.self.view_is c.in-Some.ensures.value) c.child_of.ensures c.self.invariant.3

pub forget-requires-in-Some-clause-one : goal.forget-requires-in-Some-clause-one
forget-requires-in-Some-clause-one g c = item_before termed_of own_termed c.args.id c.in-Some.slot c.self.inside.termed
    c.termed_of.result c.self.view_is
    (rw c.self.view_is at c.self.invariant.5) (found_in c.args.id c.in-Some.slot c.self.inside.records.entries
    c.args.self.now c.self.invariant.0 c.self.view_is c.in-Some.ensures.value) c.termed_of.ensures c.self.invariant.4

pub invariant_of-self : goal.invariant_of-self
invariant_of-self g c =
    let left = removed c.args.id c.self.inside.records c.shift_remove.new.self c.args.self.now c.self.invariant.0
    c.self.view_is c.shift_remove.ensures.entries c.shift_remove.ensures.updates.1 in (
      left.own,
      left.timely CLOCK_LIMIT (rw c.self.view_is at c.self.invariant.1),
      rw (c.subtract.ensures, c.of.ensures, c.self.invariant.2, c.shift_remove.ensures.entries)
          (removed_counts (same_id c.args.id) c.in-Some.slot c.self.inside.records.entries
          (sym c.in-Some.ensures.value)),
      removed_index child_of own_child c.args.id c.self.inside.children c.forget.new.items c.self.view_is left.values
          c.forget.ensures.items c.forget.ensures.sorted c.forget.ensures.room c.self.invariant.3,
      removed_index termed_of own_termed c.args.id c.self.inside.termed c.forget-in-Some.new.items c.self.view_is
          left.values c.forget-in-Some.ensures.items c.forget-in-Some.ensures.sorted c.forget-in-Some.ensures.room
          c.self.invariant.4,
      rw left.values (distinct_without c.args.id c.args.self.now
          (rw c.self.view_is at c.self.invariant.5)),
    )

pub returns-in-Some : goal.returns-in-Some
returns-in-Some g c = (removed c.args.id c.self.inside.records c.shift_remove.new.self c.args.self.now
    c.self.invariant.0 c.self.view_is c.shift_remove.ensures.entries c.shift_remove.ensures.updates.1).values

pub returns-in_default : goal.returns-in_default
returns-in_default g c = (removed c.args.id c.self.inside.records c.shift_remove.new.self c.args.self.now
    c.self.invariant.0 c.self.view_is c.shift_remove.ensures.entries c.shift_remove.ensures.updates.1).values
