use Rattle.std.proofs.Common.{reverse, take}
use Rattle.trace_check.specs.Judging.{Judged}
use Rattle.trace_check.proofs.pass.first_breach.Given as goal

-- the judge has taken the happenings so far
abbrev pub invariant-loop-position : goal.invariant-loop-position
invariant-loop-position g l = Judged l.judge (reverse (take l.position l.trace))
