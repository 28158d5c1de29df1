use Rattle.level_core.proofs.Words.{◌≡◌, drop, look_among}
use Rattle.level_core.proofs.walking.look_among.Given as goal

-- the result is that for the remaining records
abbrev pub invariant-loop-position : goal.invariant-loop-position
invariant-loop-position l = look_among l.slots ≡ look_among (drop l.position l.slots)
