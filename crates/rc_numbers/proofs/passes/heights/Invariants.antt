use Rattle.rc_numbers.proofs.Words.{◌≡◌, ℕ, ◌<◌, length, get_or, drop, height_from}
use Rattle.rc_numbers.proofs.passes.heights.Given as goal

abbrev pub invariant-loop-position : goal.invariant-loop-position
invariant-loop-position g l = record {
  size : length l.heights.items ≡ length l.numbers;
  value : (a : ℕ) → a < length l.numbers → height_from l.numbers a (get_or l.heights.items a 0)
      (drop l.position-index l.edges) ≡ height_from l.numbers a 1 l.edges;
}
