use Rattle.level_core.proofs.Words.{◌≡◌, drop, zip, are_starts_along}
use Rattle.level_core.proofs.Ruled.{starts_from}
use Rattle.level_core.proofs.rules.are_starts_along.Given as goal

-- the result is that for the remaining entries, after an owed entry or not
abbrev pub invariant-loop-position : goal.invariant-loop-position
invariant-loop-position g l =
    are_starts_along l.stage (zip l.table l.slots) ≡ starts_from l.owed l.stage (drop l.position (zip l.table l.slots))
