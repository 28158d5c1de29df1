use Rattle.rclinks_command.proofs.ReportLemmas.{tells_more, tells_none}
use Rattle.rclinks_command.proofs.report.add_lines.Goals as goal

pub loop-line-init : goal.loop-line-init
loop-line-init c = tells_none _ _

pub loop-line-preserved : goal.loop-line-preserved
loop-line-preserved c = tells_more _ _ _ _ _ c.loop-line.invariant c.in_ok-add_line.ensures
