use Rattle.trace_check.proofs.Words.{sym, ◌∙◌, ap, is_distinct, is_settled_in}
use Rattle.trace_check.proofs.Judging.{settled}
use Rattle.trace_check.proofs.Passing.{lone_lawful}
use Rattle.trace_check.proofs.trace_judges.TraceJudge.is_settled.Goals as goal

pub returns : goal.returns
returns g c = rw (← c.self.view_is) (λ past judged.
    c.is_settled.ensures ∙ ap (λ table. is_settled_in c.args.level table c.self.inside.judge) judged.in_force
    ∙ settled c.self.inside.judge past judged.reads (lone_lawful past judged.lawful)
    (ap is_distinct (sym judged.in_force) ∙ c.len-len.ensures.distinct) c.args.level)
