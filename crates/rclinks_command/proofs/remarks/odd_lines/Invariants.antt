use Rattle.rclinks_command.proofs.Words.{length}
use Rattle.rclinks_command.proofs.remarks.odd_lines.Given as goal

abbrev pub decreases-loop-line : goal.decreases-loop-line
decreases-loop-line l = length l.rest
