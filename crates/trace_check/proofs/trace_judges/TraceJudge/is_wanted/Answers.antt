use Rattle.trace_check.proofs.Words.{◌∙◌}
use Rattle.trace_check.proofs.Judging.{wanted}
use Rattle.trace_check.proofs.trace_judges.TraceJudge.is_wanted.Goals as goal

pub returns : goal.returns
returns g c = rw (← c.self.view_is)
    (λ past judged found. c.is_wanted.ensures ∙ wanted c.self.inside.judge past judged.reads c.args.entry.now found)
