use Rattle.core_waiting.proofs.Words.{◌≡◌, ◌++◌, length, answers_text}
use Rattle.core_waiting.proofs.lines.add_answers.Given as goal

-- the text so far, followed by the lines of the remaining records, is the text with all lines
abbrev pub invariant-loop-slot : goal.invariant-loop-slot
invariant-loop-slot l = l.text.items ++ answers_text l.stage l.rest ≡ l.fn.text.items ++ answers_text l.stage l.slots

abbrev pub decreases-loop-slot : goal.decreases-loop-slot
decreases-loop-slot l = length l.rest
