use Rattle.inittab_lint.proofs.Words.{◌≡◌, length, operator_in, operator_of}
use Rattle.inittab_lint.proofs.shell.operator_of.Given as goal

-- the operator of the remaining text is that of the whole process
abbrev pub invariant-loop-byte : goal.invariant-loop-byte
invariant-loop-byte l = operator_in l.parts.items l.was_read l.start l.rest ≡ operator_of l.process

abbrev pub decreases-loop-byte : goal.decreases-loop-byte
decreases-loop-byte l = length l.rest
