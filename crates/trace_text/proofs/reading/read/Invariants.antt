use Rattle.trace_text.proofs.CommonWords.{◌≡◌, ◌+◌, ◌++◌, true, length, newlines, trace_text, are_in_range}
use Rattle.trace_text.proofs.reading.read.Given as goal

-- the text is that of the trace so far followed by the rest, whose first line has the number
abbrev pub invariant-loop-rest : goal.invariant-loop-rest
invariant-loop-rest g l = record {
  are : are_in_range l.trace.items ≡ true;
  whole : trace_text l.trace.items ++ l.rest ≡ l.text;
  counted : l.number ≡ newlines (trace_text l.trace.items) + 1;
}

abbrev pub decreases-loop-rest : goal.decreases-loop-rest
decreases-loop-rest g l = length l.rest
