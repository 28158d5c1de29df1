use Rattle.inittab_lint.proofs.Words.{◌≡◌, true, length, has_hash}
use Rattle.inittab_lint.proofs.shell.has_hash.Given as goal

-- the remaining text has such a word exactly if the whole process has one
abbrev pub invariant-loop-byte : goal.invariant-loop-byte
invariant-loop-byte l = has_hash l.before l.rest ≡ has_hash true l.process

abbrev pub decreases-loop-byte : goal.decreases-loop-byte
decreases-loop-byte l = length l.rest
