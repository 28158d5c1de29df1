use Rattle.child_table.proofs.Words.{ap, ◌∙◌, ◌==◌, Counts, SlotState, counts_of}
use Rattle.std.specs.Option.{is_some}
use Rattle.child_table.proofs.Counted.{none_counted}
use Rattle.child_table.proofs.slots.Slots.is_idle.Goals as goal

pub returns : goal.returns
returns g c = ap (λ (k : Counts). k.orders == 0) (c.self.invariant.2 ∙ ap counts_of c.self.view_is)
    ∙ none_counted (λ (slot : SlotState). is_some slot.order) c.args.self.now
