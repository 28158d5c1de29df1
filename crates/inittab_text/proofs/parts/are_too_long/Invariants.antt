use Rattle.inittab_text.proofs.Words.{◌≡◌, ◌+◌, ◌≤◌, drop, texts_of, TEXT_LIMIT, size_of_texts}
use Rattle.inittab_text.proofs.parts.are_too_long.Given as goal

-- the bytes of the parts seen so far and the remaining room add up to the limit
abbrev pub invariant-loop-part : goal.invariant-loop-part
invariant-loop-part g l = record {
  within : l.room ≤ TEXT_LIMIT;
  left : size_of_texts (texts_of l.parts) + l.room ≡ TEXT_LIMIT + size_of_texts (texts_of (drop l.part-index l.parts));
}
