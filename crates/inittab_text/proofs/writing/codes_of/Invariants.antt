use Rattle.inittab_text.proofs.Words.{◌≡◌, map, take, mark_code}
use Rattle.inittab_text.proofs.writing.codes_of.Given as goal

abbrev pub invariant-loop-mark : goal.invariant-loop-mark
invariant-loop-mark l = l.codes.items ≡ map mark_code (take l.mark-index l.marks)
