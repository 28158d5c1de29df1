use Rattle.child_table.proofs.Words.{ap, ◌∙◌, ◌==◌, Counts, SlotState, counts_of, is_busy}
use Rattle.child_table.proofs.Counted.{none_counted}
use Rattle.child_table.proofs.slots.Slots.quiet.Goals as goal

pub returns : goal.returns
returns g c = ap (λ (k : Counts). k.busy == 0) (c.self.invariant.2 ∙ ap counts_of c.self.view_is)
    ∙ none_counted (λ (slot : SlotState). is_busy slot.order) c.args.self.now
