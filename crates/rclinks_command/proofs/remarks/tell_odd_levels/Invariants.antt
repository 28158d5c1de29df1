use Rattle.rclinks_command.proofs.Words.{length}
use Rattle.rclinks_command.proofs.remarks.tell_odd_levels.Given as goal

abbrev pub decreases-loop-word : goal.decreases-loop-word
decreases-loop-word l = length l.rest
