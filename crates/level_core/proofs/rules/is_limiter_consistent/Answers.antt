use Rattle.level_core.proofs.Words.{◌≤◌, length, sym, ◌∙◌, IsNonDecreasing, STARTS}
use Rattle.level_core.proofs.Ruled.{limit_kept}
use Rattle.level_core.proofs.rules.is_limiter_consistent.Goals as goal

pub returns-then-is_limited : goal.returns-then-is_limited
returns-then-is_limited c =
    let few : length c.args.slot.now.limiter.starts ≤ STARTS =
    rw c.starts-starts.ensures.value at c.starts-starts.ensures.few in
    let ordered : IsNonDecreasing c.args.slot.now.limiter.starts =
    rw c.starts-starts.ensures.value at c.starts-starts.ensures.ordered in
    rw (
      sym c.is_limited.ensures ∙ c.if-is_limited.true,
      c.is_hold_kept.ensures,
      c.starts-starts.ensures.value,
      c.held_until-held_until.ensures,
    ) (limit_kept c.args.now c.args.slot.now.limiter few ordered)
