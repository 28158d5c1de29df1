use Rattle.simulator.proofs.Words.{◌≡◌, FromMoment, SomeMoment}
use Rattle.core_model.specs.Work.{work_left}
use Rattle.simulator.proofs.Moves.{WentOn}
use Rattle.simulator.proofs.running.run_until_rest.Given as goal

-- init continued from the moment at which it began
abbrev pub invariant-steps : goal.invariant-steps
invariant-steps g l = record {
  some : SomeMoment l.core l.side;
  generation : l.core.fields.generation ≡ l.fn.core.fields.generation;
  all : FromMoment l.fn.core l.fn.side
      (λ goal past. WentOn goal past l.core l.side (g.W.Write.contents l.fn.out) (g.W.Write.contents l.out));
}

abbrev pub decreases-steps : goal.decreases-steps
decreases-steps g l = work_left l.core
