use Rattle.core_waiting.proofs.Words.{◌≡◌, ◌++◌, awaited_by, ends_text}
use Rattle.core_waiting.proofs.lines.add_ends.Given as goal

-- the text so far, followed by the lines of the remaining children, is the text with all lines
abbrev pub invariant-loop-awaited : goal.invariant-loop-awaited
invariant-loop-awaited g l =
    l.text.items ++ ends_text l.core l.awaited-iterator ≡ l.fn.text.items ++ ends_text l.core (awaited_by l.core)
