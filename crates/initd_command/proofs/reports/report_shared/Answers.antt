use Rattle.initd_command.proofs.Words.{string_bytes}
use Rattle.initd_command.proofs.Reported.{reported_text}
use Rattle.initd_command.proofs.reports.report_shared.Goals as goal

pub returns-clause-reported : goal.returns-clause-reported
returns-clause-reported g c =
    reported_text c.format.result
    (λ text. string_bytes text) _ _ _ c.format.ensures.ok c.report_made.ensures.made c.report_made.ensures.unmade
