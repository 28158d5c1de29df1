use Rattle.level_core.proofs.Words.{◌≡◌, drop, stop_among}
use Rattle.level_core.proofs.walking.stop_among.Given as goal

-- the result is that for the remaining records
abbrev pub invariant-loop-position : goal.invariant-loop-position
invariant-loop-position l =
    stop_among l.grace l.now l.slots ≡ stop_among l.grace l.now (drop l.position l.slots)
