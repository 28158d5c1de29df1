use Rattle.rc_numbers.proofs.Words.{IsPartial, zeros}
use Rattle.rc_numbers.proofs.passes.numbers.Given as goal

abbrev pub invariant-passes : goal.invariant-passes
invariant-passes g l = IsPartial l.count l.edges l.numbers.items

abbrev pub decreases-passes : goal.decreases-passes
decreases-passes g l = zeros l.numbers.items
