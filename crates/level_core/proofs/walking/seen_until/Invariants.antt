use Rattle.level_core.proofs.Words.{◌≡◌, true, are_seen}
use Rattle.level_core.proofs.walking.seen_until.Given as goal

abbrev pub invariant-loop-position : goal.invariant-loop-position
invariant-loop-position l = (l.seen ≡ l.position) × (are_seen l.position l.slots ≡ true)
