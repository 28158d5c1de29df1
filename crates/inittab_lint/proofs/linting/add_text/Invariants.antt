use Rattle.inittab_lint.proofs.Words.{◌≡◌, ◌++◌, ◌+◌, ◌≤◌, length, lines_of, warnings_of_lines}
use Rattle.inittab_lint.proofs.linting.add_text.Given as goal

-- the warnings found so far, followed by those about the remaining lines, are the earlier ones and those about all
-- lines
abbrev pub invariant-loop-rest : goal.invariant-loop-rest
invariant-loop-rest g l = record {
  counted : l.number + length l.rest ≤ length l.text;
  found : l.found.items ++ warnings_of_lines l.part (l.number + 1) (lines_of l.rest)
      ≡ l.fn.found.items ++ warnings_of_lines l.part 1 (lines_of l.text);
}

abbrev pub decreases-loop-rest : goal.decreases-loop-rest
decreases-loop-rest g l = length l.rest
