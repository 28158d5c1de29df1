use Rattle.level_core.proofs.Words.{◌≤◌, Some, zip, ArePassedFrom}
use Rattle.level_core.proofs.walking.passed_to.Given as goal

abbrev pub invariant-loop-position : goal.invariant-loop-position
invariant-loop-position g l = (l.from ≤ l.position)
    × ArePassedFrom (Some l.stage) l.now (zip l.table l.slots) l.from l.position
