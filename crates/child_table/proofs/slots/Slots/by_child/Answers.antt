use Rattle.child_table.proofs.Words.{sym}
use Rattle.child_table.proofs.Keys.{found_id, found_no_id}
use Rattle.child_table.proofs.slots.Slots.by_child.Goals as goal

pub returns-in-One : goal.returns-in-One
returns-in-One g c =
    sym (found_id c.args.number c.in-One.id c.args.self.now c.self.inside.children.items (rw c.self.view_is
    at c.self.invariant.3.those) (rw (c.as_slice.ensures.value, c.from.ensures, c.number.view_is) at c.in-One.ensures))

pub returns-in-None : goal.returns-in-None
returns-in-None g c = sym (found_no_id c.args.number c.args.self.now c.self.inside.children.items (rw c.self.view_is
    at c.self.invariant.3.those) (rw (c.as_slice.ensures.value, c.from.ensures, c.number.view_is) at c.in-None.ensures))
