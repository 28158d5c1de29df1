use Rattle.trace_check.proofs.Words.{IsUnowedPrefix}
use Rattle.trace_check.proofs.judge.Judge.unowed_from.Given as goal

-- none of the entries so far is owed
abbrev pub invariant-loop-position : goal.invariant-loop-position
invariant-loop-position g l = IsUnowedPrefix l.position l.table l.self
