use Rattle.level_core.proofs.Words.{◌≡◌, ◌≤◌, subst, arith, zip, CLOCK_LIMIT, timely_later, is_passed_at}
use Rattle.level_core.proofs.Words.{NoSignalDueBefore}
use Rattle.level_core.proofs.Places.{still_passed}
use Rattle.level_core.proofs.state.CoreValues.clock_by_state.Goals as goal

pub invariant_of-self : goal.invariant_of-self
invariant_of-self g c =
    let kept : c.self.inside.fields.time ≤ CLOCK_LIMIT = c.self.invariant.0 in
    let later : c.self.inside.fields.time ≤ c.max-self-inside.result = omega arith in
    let capped : c.max-self-inside.result ≤ CLOCK_LIMIT = omega arith in (
      capped,
      timely_later c.self.inside.fields.time c.max-self-inside.result later c.self.inside.slots c.self.invariant.1,
      c.self.invariant.2,
      c.self.invariant.3,
      c.all_if-self-inside.ensures
          (is_passed_at c.self.inside.fields.stage c.max-self-inside.result
          (zip c.self.inside.table c.self.inside.slots))
          (λ same. still_passed c.self.inside.fields.stage c.self.inside.fields.time c.max-self-inside.result
          (zip c.self.inside.table c.self.inside.slots) c.self.inside.starts later same c.self.invariant.4),
      λ i lt. absurd (omega arith),
    )

pub invariant_of-self-else-before-self : goal.invariant_of-self-else-before-self
invariant_of-self-else-before-self g c =
    let kept : c.self.inside.fields.time ≤ CLOCK_LIMIT = c.self.invariant.0 in
    let later : c.self.inside.fields.time ≤ c.max-self-inside.result = omega arith in
    let capped : c.max-self-inside.result ≤ CLOCK_LIMIT = omega arith in (
      capped,
      timely_later c.self.inside.fields.time c.max-self-inside.result later c.self.inside.slots c.self.invariant.1,
      c.self.invariant.2,
      c.self.invariant.3,
      c.all_if-self-inside.ensures
          (is_passed_at c.self.inside.fields.stage c.max-self-inside.result
          (zip c.self.inside.table c.self.inside.slots))
          (λ same. still_passed c.self.inside.fields.stage c.self.inside.fields.time c.max-self-inside.result
          (zip c.self.inside.table c.self.inside.slots) c.self.inside.starts later same c.self.invariant.4),
      let is : c.self.inside.fields.time ≡ c.max-self-inside.result = omega (arith, c.if-before-self.false) in
          subst (λ n. NoSignalDueBefore c.self.inside.fields.grace n c.self.inside.stops_from c.self.inside.slots) is
          c.self.invariant.5,
    )
