use Rattle.initview_command.proofs.Words.{◌≡◌, true, length, list_all, is_missing}
use Rattle.initview_command.proofs.programs.missing.Given as goal

-- each warning so far is about a missing program
abbrev pub invariant-loop-file : goal.invariant-loop-file
invariant-loop-file g l = list_all is_missing l.found.items ≡ true

abbrev pub decreases-loop-file : goal.decreases-loop-file
decreases-loop-file g l = length l.rest
