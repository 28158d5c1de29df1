use Rattle.text_lines.proofs.CommonWords.{◌≡◌, ◌+◌, ◌-◌, ◌≤◌, length, drop, word_length}
use Rattle.text_lines.proofs.words.word_length.Given as goal

abbrev pub invariant-loop-end : goal.invariant-loop-end
invariant-loop-end l = record {
  within : l.end ≤ length l.text;
  counted : l.end + word_length (drop l.end l.text) ≡ word_length l.text;
}

abbrev pub decreases-loop-end : goal.decreases-loop-end
decreases-loop-end l = length l.text - l.end
