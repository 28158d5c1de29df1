use Rattle.child_table.proofs.Words.{ap, ◌∙◌, not, ◌==◌, Counts, SlotState, counts_of}
use Rattle.std.specs.Option.{is_some}
use Rattle.child_table.proofs.Counted.{some_counted}
use Rattle.child_table.proofs.slots.Slots.has_excluded.Goals as goal

pub returns : goal.returns
returns g c = ap (λ (k : Counts). not (k.excluded == 0)) (c.self.invariant.2 ∙ ap counts_of c.self.view_is)
    ∙ some_counted (λ (slot : SlotState). is_some slot.stop) c.args.self.now
