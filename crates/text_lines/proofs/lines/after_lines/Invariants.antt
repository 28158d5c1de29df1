use Rattle.text_lines.proofs.CommonWords.{◌≡◌, ◌-◌, after_lines}
use Rattle.text_lines.proofs.lines.after_lines.Given as goal

-- skipping the remaining lines of the rest gives the same result as skipping all lines of the text
abbrev pub invariant-loop : goal.invariant-loop
invariant-loop l = after_lines (l.count - l.counter) l.rest ≡ after_lines l.count l.text
