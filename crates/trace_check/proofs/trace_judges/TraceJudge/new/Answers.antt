use Rattle.trace_check.proofs.Words.{refl, false≢true}
use Rattle.trace_check.proofs.trace_judges.TraceJudge.new.Goals as goal

pub invariant_of-result : goal.invariant_of-result
invariant_of-result g c = (λ is id. absurd (false≢true is), refl)
