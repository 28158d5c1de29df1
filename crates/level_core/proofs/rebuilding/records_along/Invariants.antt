use Rattle.level_core.proofs.Remade.{AreMade}
use Rattle.level_core.proofs.rebuilding.records_along.Given as goal

abbrev pub invariant-loop-position : goal.invariant-loop-position
invariant-loop-position g l = AreMade l.table l.records l.slots.items l.position
