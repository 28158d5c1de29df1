use Rattle.initview_command.proofs.Words.{◌≡◌, true, length, list_all, is_missing}
use Rattle.initview_command.proofs.programs.add_text.Given as goal

-- each warning so far is about a missing program
abbrev pub invariant-loop-rest : goal.invariant-loop-rest
invariant-loop-rest g l = list_all is_missing l.found.items ≡ true

abbrev pub decreases-loop-rest : goal.decreases-loop-rest
decreases-loop-rest g l = length l.rest
