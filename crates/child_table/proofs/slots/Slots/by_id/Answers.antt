use Rattle.child_table.proofs.Words.{◌∙◌, CLOCK_LIMIT}
use Rattle.child_table.proofs.Found.{looked_up, timely_some}
use Rattle.child_table.proofs.slots.Slots.by_id.Goals as goal

pub returns-clause-value : goal.returns-clause-value
returns-clause-value g c = c.get.ensures.value
    ∙ looked_up c.args.id.now c.self.inside.records.entries c.args.self.now c.self.invariant.0 c.self.view_is

pub returns-clause-timely : goal.returns-clause-timely
returns-clause-timely g c =
    timely_some CLOCK_LIMIT c.args.id.now c.args.self.now c.get.result (c.get.ensures.value
    ∙ looked_up c.args.id.now c.self.inside.records.entries c.args.self.now c.self.invariant.0 c.self.view_is)
    (rw c.self.view_is at c.self.invariant.1)
