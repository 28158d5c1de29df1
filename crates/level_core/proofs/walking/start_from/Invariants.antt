use Rattle.level_core.proofs.Words.{◌≡◌, drop, zip, start_along}
use Rattle.level_core.proofs.walking.start_from.Given as goal

-- the result is that for the remaining entries
abbrev pub invariant-loop-position : goal.invariant-loop-position
invariant-loop-position g l = start_along l.stage l.now (drop l.from (zip l.table l.slots))
    ≡ start_along l.stage l.now (drop l.position (zip l.table l.slots))
