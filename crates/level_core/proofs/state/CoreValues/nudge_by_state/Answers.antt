use Rattle.level_core.proofs.Words.{refl, arith, after_nudge, timely_map, order_map}
use Rattle.level_core.proofs.Moved.{passed_nudged}
use Rattle.level_core.proofs.state.CoreValues.nudge_by_state.Goals as goal

pub invariant_of-self : goal.invariant_of-self
invariant_of-self g c = (
  c.self.invariant.0,
  rw c.nudge.ensures
      (timely_map c.self.inside.fields.time after_nudge (λ slot h. h) c.self.inside.slots c.self.invariant.1),
  rw c.nudge.ensures
      (order_map after_nudge (λ s. refl) (λ s. refl) c.self.inside.table c.self.inside.slots c.self.invariant.2),
  refl,
  rw c.nudge.ensures (passed_nudged c.self.inside.fields.stage c.self.inside.fields.time c.self.inside.table
      c.self.inside.slots c.self.inside.starts c.self.invariant.4),
  λ i lt. absurd (omega arith),
)
