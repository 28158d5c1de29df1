use Rattle.inittab_lint.proofs.Words.{◌≡◌, length}
use Rattle.inittab_lint.specs.Shell.{early_in, expands_early}
use Rattle.inittab_lint.proofs.shell.expands_early.Given as goal

-- the remaining text has such a command exactly if the whole process has one
abbrev pub invariant-loop-byte : goal.invariant-loop-byte
invariant-loop-byte l = early_in l.parts.items l.was_read l.start l.rest ≡ expands_early l.process

abbrev pub decreases-loop-byte : goal.decreases-loop-byte
decreases-loop-byte l = length l.rest
