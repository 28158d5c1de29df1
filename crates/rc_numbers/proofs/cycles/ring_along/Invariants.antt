use Rattle.rc_numbers.proofs.Words.{◌≡◌, ℕ, ◌<◌, List, [], ◌∷◌, ◌++◌, length, get_or, AllBelow, AreSteps}
use Rattle.rc_numbers.proofs.CycleLemmas.{Trail}
use Rattle.rc_numbers.proofs.cycles.ring_along.Given as goal

abbrev pub invariant-steps : goal.invariant-steps
invariant-steps g l = record {
  at : l.at < length l.steps;
  below : AllBelow (length l.steps) l.ring.items;
  trail : (edges : List (ℕ × ℕ)) → AreSteps edges l.steps → Trail edges l.ring.items l.at;
  first : get_or (l.ring.items ++ l.at ∷ []) 0 0 ≡ l.position;
}
