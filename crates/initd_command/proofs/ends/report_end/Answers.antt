use Rattle.initd_command.proofs.ends.report_end.Goals as goal

pub returns-clause-reported : goal.returns-clause-reported
returns-clause-reported g c = (
  g.E.Reporter.reports c.report_turns-status.new.err,
  c.report_turns-status.ensures.reported,
  c.report_judgement.ensures,
)
