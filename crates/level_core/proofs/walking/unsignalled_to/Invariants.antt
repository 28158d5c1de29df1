use Rattle.level_core.proofs.Words.{◌≡◌, NoSignalDueBefore}
use Rattle.level_core.proofs.walking.unsignalled_to.Given as goal

abbrev pub invariant-loop-position : goal.invariant-loop-position
invariant-loop-position l = (l.to ≡ l.position) × NoSignalDueBefore l.grace l.now l.position l.slots
