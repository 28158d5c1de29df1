use Rattle.initd_command.proofs.Words.{option_map}
use Rattle.initd_command.proofs.ends.report_lost_limit.Goals as goal

pub returns : goal.returns
returns g c = (
  option_map (λ numbers. numbers.entries) c.children_of-children.result,
  (
    g.E.Reporter.reports c.report.new.err,
    c.report.ensures,
    g.E.Reporter.reports c.report_children.new.err,
    c.report_children.ensures,
    c.report_waiting.ensures,
  ),
)
