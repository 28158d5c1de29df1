use Rattle.text_lines.proofs.CommonWords.{◌≡◌, ◌≤◌, ◌+◌, drop, newlines}
use Rattle.text_lines.proofs.lines.newlines.Given as goal

-- the newlines counted so far and those of the remaining bytes add up to all newlines
abbrev pub invariant-loop-byte : goal.invariant-loop-byte
invariant-loop-byte l = record {
  counted : l.count + newlines (drop l.byte-index l.text) ≡ newlines l.text;
  within : l.count ≤ l.byte-index;
}
