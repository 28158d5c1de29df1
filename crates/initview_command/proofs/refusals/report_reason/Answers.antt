use Rattle.initview_command.proofs.Words.{◌∙◌, inl, inr, subst, codes, ReportsUsage}
use Rattle.initview_command.specs.declared.command.TheConstants.{USAGE}
use Rattle.initview_command.proofs.refusals.report_reason.Goals as goal

pub returns-in-Ok : goal.returns-in-Ok
returns-in-Ok g c =
    let old = g.E.Reporter.reports c.args.err.now in
    let new = g.E.Reporter.reports c.report_refused_words.new.err in
    inl (
      c.report_refused_words.ensures.status,
      c.usage_of.result.now,
      subst (λ line. ReportsUsage (codes "initview") USAGE.now line old new) (c.as_str.ensures.value ∙ c.in-Ok.ensures)
          (c.args.reason.now, c.report_refused_words.ensures.report),
    )

pub returns-in-Err : goal.returns-in-Err
returns-in-Err g c = inr (c.report_memory.ensures.status, c.report_memory.ensures.report)
