use Rattle.inittab_text.proofs.Words.{◌≡◌, ◌≤◌, length, take, marks_of}
use Rattle.inittab_text.proofs.kept.marks_of.Given as goal

abbrev pub invariant-loop-code : goal.invariant-loop-code
invariant-loop-code l = record {
  marks : l.marks.items ≡ marks_of (take l.code-index l.field);
  few : length l.marks.items ≤ l.code-index;
}
