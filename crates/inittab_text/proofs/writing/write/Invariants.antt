use Rattle.inittab_text.proofs.Words.{◌≡◌, ◌++◌, drop, text_of}
use Rattle.inittab_text.proofs.writing.write.Given as goal

abbrev pub invariant-loop-position : goal.invariant-loop-position
invariant-loop-position g l = l.text.items ++ text_of (drop l.position l.table) ≡ text_of l.table
