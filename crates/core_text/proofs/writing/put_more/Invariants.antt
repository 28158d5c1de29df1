use Rattle.core_text.proofs.CommonWords.{◌≡◌, ◌++◌, ◌∷◌, drop, decimal, flat_map}
use Rattle.core_text.proofs.writing.put_more.Given as goal

-- the text so far and that of the remaining times are the whole text
abbrev pub invariant-loop-time : goal.invariant-loop-time
invariant-loop-time g l = l.text.items ++ flat_map (λ t. 44 ∷ decimal t) (drop l.time-index l.times)
    ≡ l.fn.text.items ++ flat_map (λ t. 44 ∷ decimal t) l.times
