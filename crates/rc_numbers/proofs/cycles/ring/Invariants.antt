use Rattle.rc_numbers.proofs.Words.{◌≡◌, ℕ, suc, ◌<◌, length, get_or, AllBelow, zeros}
use Rattle.rc_numbers.proofs.CycleLemmas.{Trail}
use Rattle.rc_numbers.proofs.cycles.ring.Given as goal

abbrev pub invariant-steps : goal.invariant-steps
invariant-steps g l = record {
  size : length l.marks.items ≡ length l.numbers;
  at : l.at < length l.numbers;
  none : get_or l.numbers l.at 0 ≡ 0;
  below : AllBelow (length l.numbers) l.path.items;
  trail : Trail l.edges l.path.items l.at;
  marked : (v m : ℕ) → get_or l.marks.items v 0 ≡ suc m → (m < length l.path.items) × (get_or l.path.items m 0 ≡ v);
}

abbrev pub decreases-steps : goal.decreases-steps
decreases-steps g l = zeros l.marks.items
