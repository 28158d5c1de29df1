use Rattle.rc_numbers.proofs.Words.{◌≡◌, ℕ, ◌<◌, length, get_or, drop, need_from}
use Rattle.rc_numbers.proofs.cycles.blockers.Given as goal

abbrev pub invariant-loop-position : goal.invariant-loop-position
invariant-loop-position g l = record {
  size : length l.found.items ≡ length l.numbers;
  value : (a : ℕ) → a < length l.numbers
      → need_from l.numbers a (get_or l.found.items a 0) (drop l.position-index l.edges)
      ≡ need_from l.numbers a 0 l.edges;
}
