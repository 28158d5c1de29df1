use Rattle.child_table.proofs.slots.Slots.len.Goals as goal

pub returns-clause-distinct : goal.returns-clause-distinct
returns-clause-distinct g c = rw (← c.self.view_is) c.self.invariant.5
