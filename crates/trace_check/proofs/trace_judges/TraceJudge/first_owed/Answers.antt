use Rattle.trace_check.proofs.Words.{◌∙◌}
use Rattle.trace_check.proofs.Judging.{first_owed_is}
use Rattle.trace_check.proofs.trace_judges.TraceJudge.first_owed.Goals as goal

pub returns : goal.returns
returns g c = rw (← c.self.view_is) (λ past judged. c.first_owed.ensures ∙ first_owed_is c.self.inside.judge past
    judged.reads c.self.inside.table judged.in_force c.len-len.ensures.distinct c.args.id.now)
