use Rattle.core_text.proofs.CommonWords.{◌≡◌, ◌++◌, ◌∷◌, drop, bits}
use Rattle.core_text.proofs.writing.put_bits.Given as goal

-- the text so far and that of the remaining flags are the whole text
abbrev pub invariant-loop-flag : goal.invariant-loop-flag
invariant-loop-flag g l = l.text.items ++ bits (drop l.flag-index l.flags) ≡ l.fn.text.items ++ 32 ∷ bits l.flags
