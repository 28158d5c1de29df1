use Rattle.rc_numbers.proofs.Words.{◌≡◌, length, AreSteps}
use Rattle.rc_numbers.proofs.cycles.meet_all.Given as goal

abbrev pub invariant-loop-other : goal.invariant-loop-other
invariant-loop-other g l = record {
  size : length l.steps ≡ length l.fn.steps;
  steps : AreSteps l.needs l.fn.steps → AreSteps l.needs l.steps;
}
