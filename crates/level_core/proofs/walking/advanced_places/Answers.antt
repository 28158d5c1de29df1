use Rattle.level_core.proofs.Words.{arith, sym, zip, Some, is_passed_at}
use Rattle.level_core.proofs.Places.{further, over}
use Rattle.level_core.proofs.walking.advanced_places.Goals.{else-places-via-then-places+else-not-is_passed_at}
use Rattle.level_core.proofs.walking.advanced_places.Goals.{else-places-via-else-places}
use Rattle.level_core.proofs.walking.advanced_places.Goals as goal

pub returns-then-not-is_passed_at : goal.returns-then-not-is_passed_at
returns-then-not-is_passed_at g c =
    further (is_passed_at (Some c.args.stage) c.args.now (zip c.args.table.now c.args.slots.now)) c.args.places
    c.passed_to-next.result c.passed_to-next.ensures.behind c.passed_to-next.ensures.passed c.requires

pub returns-else-places : goal.returns-else-places
returns-else-places g c =
    over (is_passed_at (Some c.args.stage) c.args.now (zip c.args.table.now c.args.slots.now)) c.args.places
    c.passed_to-next.result c.passed_to-next.ensures.behind c.passed_to-next.ensures.passed (elim c.else-places.branch [
      | else-places-via-then-places+else-not-is_passed_at w ↦ (λ lt. sym w.if-not-is_passed_at.ensures)
      | else-places-via-else-places w ↦ (λ lt. absurd (omega (arith, w.if-places.false)))
    ]) c.requires
