use Rattle.trace_check.proofs.Words.{◌∙◌}
use Rattle.trace_check.proofs.Judging.{held}
use Rattle.trace_check.proofs.trace_judges.TraceJudge.is_held.Goals as goal

pub returns : goal.returns
returns g c =
    rw (← c.self.view_is) (λ past judged. c.is_held.ensures ∙ held c.self.inside.judge past judged.reads c.args.id.now)
