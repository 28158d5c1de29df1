use Rattle.std.proofs.Common.{◌≡◌, length}
use Rattle.initd_options.specs.Options.{without_zeros}
use Rattle.initd_options.proofs.options.without_zeros.Given as goal

abbrev pub invariant-loop-rest : goal.invariant-loop-rest
invariant-loop-rest l = without_zeros l.rest ≡ without_zeros l.word

abbrev pub decreases-loop-rest : goal.decreases-loop-rest
decreases-loop-rest l = length l.rest
