use Rattle.inittab_lint.proofs.Words.{◌≡◌, ◌++◌, ◌+◌, ◌≤◌, length, warnings_of, warnings_of_texts}
use Rattle.init_words.specs.Parts.{texts_of}
use Rattle.inittab_lint.proofs.linting.warnings.Given as goal

-- the warnings found so far, followed by those about the remaining files, are the warnings about all files
abbrev pub invariant-loop-part : goal.invariant-loop-part
invariant-loop-part g l = record {
  counted : l.number + length l.rest ≤ length l.parts;
  found : l.found.items ++ warnings_of_texts l.number (texts_of l.rest) ≡ warnings_of (texts_of l.parts);
}

abbrev pub decreases-loop-part : goal.decreases-loop-part
decreases-loop-part g l = length l.rest
