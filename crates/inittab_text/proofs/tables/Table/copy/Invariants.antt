use Rattle.inittab_text.proofs.Words.{◌≡◌, ◌++◌, drop}
use Rattle.inittab_text.proofs.tables.Table.copy.Given as goal

abbrev pub invariant-loop-position : goal.invariant-loop-position
invariant-loop-position g l = l.copy ++ drop l.position l.self ≡ l.self
