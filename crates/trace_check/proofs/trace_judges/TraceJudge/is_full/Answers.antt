use Rattle.trace_check.proofs.Words.{◌∙◌}
use Rattle.trace_check.proofs.Judging.{full}
use Rattle.trace_check.proofs.trace_judges.TraceJudge.is_full.Goals as goal

pub returns : goal.returns
returns g c =
    rw (← c.self.view_is) (λ past judged. c.is_full.ensures ∙ full c.self.inside.judge past judged.reads c.args.id.now)
