use Rattle.level_core.proofs.Words.{refl, arith}
use Rattle.level_core.proofs.Places.{none_behind}
use Rattle.level_core.proofs.Kept.{kept_entered}
use Rattle.level_core.proofs.state.CoreValues.enter.Goals as goal

pub invariant_of-self : goal.invariant_of-self
invariant_of-self g c =
    let kept = kept_entered c.self.inside.fields.time c.self.inside.table c.args.stage c.self.inside.slots
    (c.self.invariant.1, c.self.invariant.2) in (
      c.self.invariant.0,
      rw (c.judge.ensures, c.entered.ensures) kept.0,
      rw (c.judge.ensures, c.entered.ensures) kept.1,
      refl,
      rw c.all-self-inside.ensures none_behind,
      λ i lt. absurd (omega arith),
    )
