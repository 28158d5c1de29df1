use Rattle.rclinks_command.proofs.Words.{length, TellsLines}
use Rattle.rclinks_command.proofs.report.add_lines.Given as goal

abbrev pub invariant-loop-line : goal.invariant-loop-line
invariant-loop-line l = TellsLines l.word l.fn.report.items l.report.items

abbrev pub decreases-loop-line : goal.decreases-loop-line
decreases-loop-line l = length l.rest
