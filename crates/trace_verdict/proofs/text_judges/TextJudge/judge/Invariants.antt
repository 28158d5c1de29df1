use Rattle.trace_verdict.proofs.Words.{ℕ, List, ◌^◌, ◌<◌, length, IsAt}
use Rattle.trace_verdict.proofs.text_judges.TextJudge.judge.Given as goal

-- the judge stays at work on the same text
abbrev pub invariant-loop : goal.invariant-loop
invariant-loop g l = (text : List ℕ) → length text < 2 ^ 64 → IsAt l.fn.self text → IsAt l.self text

abbrev pub decreases-loop : goal.decreases-loop
decreases-loop g l = length l.self.reading.over
