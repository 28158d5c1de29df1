use Rattle.lsb_header.proofs.Words.{◌≡◌, ◌++◌, length, IsUtf8, words_of, levels_of}
use Rattle.lsb_header.proofs.pieces.levels_of.Given as goal

abbrev pub invariant-loop-word : goal.invariant-loop-word
invariant-loop-word g l = record {
  kept : l.levels.items ++ levels_of (words_of l.rest) ≡ levels_of (words_of l.text);
  utf8 : IsUtf8 l.rest;
}

abbrev pub decreases-loop-word : goal.decreases-loop-word
decreases-loop-word g l = length (words_of l.rest)
