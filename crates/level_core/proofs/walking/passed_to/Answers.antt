use Rattle.level_core.proofs.Words.{arith, zip, Some, is_passed_at}
use Rattle.level_core.proofs.Places.{one_further}
use Rattle.level_core.proofs.walking.passed_to.Goals as goal

pub loop-position-preserved : goal.loop-position-preserved
loop-position-preserved g c = (
  omega (arith, c.loop-position.invariant.0),
  one_further (is_passed_at (Some c.args.stage) c.args.now (zip c.args.table.now c.args.slots.now)) c.args.from
      c.loop-position.position c.loop-position.invariant.1 c.if-not-is_passed_at.ensures,
)
