use Rattle.core_text.proofs.CommonWords.{◌≤◌, ◌+◌}
use Rattle.core_text.proofs.reading.table_lines.Given as goal

-- the lines known to fit, and those among which the first wrong one is, are together no more than were given
abbrev pub invariant-loop-rest : goal.invariant-loop-rest
invariant-loop-rest g l = l.known + l.rest ≤ l.count

abbrev pub decreases-loop-rest : goal.decreases-loop-rest
decreases-loop-rest g l = l.rest
