use Rattle.lsb_header.proofs.Words.{◌≡◌, ◌++◌, length, map, string_bytes, IsUtf8, words_of}
use Rattle.lsb_header.proofs.pieces.words_of.Given as goal

abbrev pub invariant-loop-word : goal.invariant-loop-word
invariant-loop-word g l = record {
  kept : map string_bytes l.words.items ++ words_of l.rest ≡ words_of l.text;
  utf8 : IsUtf8 l.rest;
}

abbrev pub decreases-loop-word : goal.decreases-loop-word
decreases-loop-word g l = length (words_of l.rest)
