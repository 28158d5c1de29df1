use Rattle.trace_text.proofs.CommonWords.{◌≡◌, ◌++◌, drop, trace_text}
use Rattle.trace_text.proofs.printing.print.Given as goal

-- the text printed so far and that of the remaining happenings are the whole text
abbrev pub invariant-loop-happening : goal.invariant-loop-happening
invariant-loop-happening g l = l.text.items ++ trace_text (drop l.happening-index l.trace) ≡ trace_text l.trace
