use Rattle.text_lines.proofs.CommonWords.{◌≡◌, ◌≤◌, length, take, trim_end}
use Rattle.text_lines.proofs.blanks.without_tail.Given as goal

abbrev pub invariant-loop-end : goal.invariant-loop-end
invariant-loop-end l = record {
  within : l.end ≤ length l.text;
  same : trim_end (take l.end l.text) ≡ trim_end l.text;
}

abbrev pub decreases-loop-end : goal.decreases-loop-end
decreases-loop-end l = l.end
