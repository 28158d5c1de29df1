use Rattle.rc_numbers.proofs.Words.{ℕ, ◌<◌, get_or}
use Rattle.rc_numbers.proofs.numbering.first_without.Given as goal

abbrev pub invariant-loop-position : goal.invariant-loop-position
invariant-loop-position l = (k : ℕ) → k < l.position → 0 < get_or l.numbers k 0
