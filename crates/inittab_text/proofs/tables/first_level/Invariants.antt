use Rattle.inittab_text.proofs.Words.{◌≡◌, drop, first_level}
use Rattle.inittab_text.proofs.tables.first_level.Given as goal

abbrev pub invariant-loop-mark : goal.invariant-loop-mark
invariant-loop-mark l = first_level (drop l.mark-index l.marks) ≡ first_level l.marks
