use Rattle.rc_numbers.proofs.Words.{ℕ, ◌<◌, ◌≤◌, length, get_or}
use Rattle.rc_numbers.proofs.cycles.least_at.Given as goal

abbrev pub invariant-loop-position : goal.invariant-loop-position
invariant-loop-position l = record {
  within : l.best < length l.places;
  least : (k : ℕ) → k < l.position → get_or l.places l.best 0 ≤ get_or l.places k 0;
}
