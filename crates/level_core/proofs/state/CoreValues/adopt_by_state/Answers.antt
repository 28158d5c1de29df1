use Rattle.level_core.proofs.Words.{refl, arith}
use Rattle.level_core.proofs.Places.{none_behind}
use Rattle.level_core.proofs.Kept.{kept_adopted}
use Rattle.level_core.proofs.state.CoreValues.adopt_by_state.Goals as goal

pub invariant_of-self-2 : goal.invariant_of-self-2
invariant_of-self-2 g c =
    let kept = kept_adopted c.self.inside.fields.time c.args.table c.self.inside.fields.stage c.self.inside.slots
    c.self.invariant.1 in (
      c.self.invariant.0,
      rw (c.judge_in.ensures, c.in_ok-adopt.ensures.adopted) kept.0,
      rw (c.judge_in.ensures, c.in_ok-adopt.ensures.adopted) kept.1,
      refl,
      rw c.all-self-inside.ensures none_behind,
      λ i lt. absurd (omega arith),
    )
