use Rattle.inittab_lint.proofs.Words.{◌≡◌, false, length}
use Rattle.inittab_lint.specs.Shell.{expands}
use Rattle.inittab_lint.proofs.shell.expands.Given as goal

-- the remaining text has an expansion exactly if the whole text has one
abbrev pub invariant-loop-byte : goal.invariant-loop-byte
invariant-loop-byte l = expands l.was_read l.rest ≡ expands false l.text

abbrev pub decreases-loop-byte : goal.decreases-loop-byte
decreases-loop-byte l = length l.rest
