use Rattle.trace_verdict.proofs.Words.{refl, []}
use Rattle.trace_verdict.proofs.text_judges.TextJudge.new.Goals as goal

pub returns : goal.returns
returns g c = rw c.new.ensures
    ([], record { are = refl; whole = refl; lines = refl; position = refl; found = c.new-2.ensures.judged }, refl)
