use Rattle.child_table.proofs.Words.{ap, ◌∙◌, not, ◌==◌, Counts, SlotState, is_stop_due, counts_of}
use Rattle.child_table.proofs.Counted.{some_counted}
use Rattle.child_table.proofs.slots.Slots.has_due.Goals as goal

pub returns : goal.returns
returns g c = ap (λ (k : Counts). not (k.due == 0)) (c.self.invariant.2 ∙ ap counts_of c.self.view_is)
    ∙ some_counted (λ (slot : SlotState). is_stop_due slot.stop) c.args.self.now
