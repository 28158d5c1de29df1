use Rattle.initd_command.proofs.Words.{[], inr, string_bytes}
use Rattle.initd_command.proofs.Reported.{reported_text}
use Rattle.initd_command.proofs.reports.report_cannot.Goals as goal

pub returns-in_default-clause-reported : goal.returns-in_default-clause-reported
returns-in_default-clause-reported g c = ([], inr c.report_memory.ensures.reported)

pub returns-clause-reported : goal.returns-clause-reported
returns-clause-reported g c = (
  c.as_str-why.result.now,
  reported_text c.format-2.result
      (λ text. string_bytes text) _ _ _ c.format-2.ensures.ok c.report_made.ensures.made c.report_made.ensures.unmade,
)
