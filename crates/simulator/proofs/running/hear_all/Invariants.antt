use Rattle.simulator.proofs.Words.{◌+◌, ◌≤◌, length, map, Vec, ℕ, SoFar, SomeRest, FromScript, HasTexts}
use Rattle.simulator.proofs.running.hear_all.Given as goal

-- the text before the rest was processed, and init is at rest
abbrev pub invariant-loop-rest : goal.invariant-loop-rest
invariant-loop-rest g l = record {
  texts : HasTexts (map (λ (text : Vec ℕ g.row.A.Denot). text.items) l.made.items) l.core.fields.generation;
  bounded : l.number + length l.rest ≤ length l.text + 1;
  some : SomeRest l.reads l.core l.side;
  so_far : FromScript l.text l.rereads l.fn.core l.fn.side (g.W.Write.contents l.fn.out) (λ s before.
      SoFar s l.rest l.number l.reads l.core l.side before (g.W.Write.contents l.out));
}

abbrev pub decreases-loop-rest : goal.decreases-loop-rest
decreases-loop-rest g l = length l.rest
