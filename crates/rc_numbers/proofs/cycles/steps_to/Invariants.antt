use Rattle.rc_numbers.proofs.Words.{◌≡◌, length, AreSteps}
use Rattle.rc_numbers.proofs.cycles.steps_to.Given as goal

abbrev pub invariant-loop-turn : goal.invariant-loop-turn
invariant-loop-turn g l = record {
  size : length l.steps.items ≡ l.count;
  steps : AreSteps l.needs l.steps.items;
}
