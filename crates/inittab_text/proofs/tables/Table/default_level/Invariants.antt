use Rattle.inittab_text.proofs.Words.{◌≡◌, drop, default_level_of}
use Rattle.inittab_text.proofs.tables.Table.default_level.Given as goal

abbrev pub invariant-loop-position : goal.invariant-loop-position
invariant-loop-position g l = default_level_of (drop l.position l.self) ≡ default_level_of l.self
