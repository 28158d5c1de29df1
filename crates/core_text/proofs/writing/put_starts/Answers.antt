use Rattle.core_text.proofs.CommonWords.{◌≡◌, ◌<◌, ◌++◌, ◌∷◌, [], drop, take, ◌-◌, refl, decimal, get_or, length, sym}
use Rattle.core_text.proofs.CommonWords.{ap, ◌∙◌, ℕ, List, arith, flat_map, append_assoc, starts_word}
use Rattle.core_text.proofs.Written.{starts_joined}
use Rattle.core_text.proofs.writing.put_starts.Goals as goal

take_all : (times : List ℕ) → take (length times) times ≡ times
take_all [] = refl
take_all (time ∷ times) = ap (λ ts. time ∷ ts) (take_all times)

put_all : (old mid new starts : List ℕ) → 0 < length starts → mid ≡ old ++ 32 ∷ decimal (get_or starts 0 0) → new ≡ mid
    ++ flat_map (λ t. 44 ∷ decimal t) (take (length starts - 1) (drop 1 starts)) → new ≡ old ++ 32 ∷ starts_word starts
put_all old mid new [] some first more = absurd (omega arith)
put_all old mid new (time ∷ times) some first more =
    let count : length (time ∷ times) - 1 ≡ length times = omega arith in
    let rest : take (length (time ∷ times) - 1) times ≡ times = ap (λ n. take n times) count ∙ take_all times in
    more ∙ ap (λ ts. mid ++ flat_map (λ t. 44 ∷ decimal t) ts) rest
    ∙ ap (λ t. t ++ flat_map (λ t. 44 ∷ decimal t) times) first ∙ append_assoc old (32 ∷ decimal time)
    (flat_map (λ t. 44 ∷ decimal t) times) ∙ ap (λ t. old ++ 32 ∷ t) (sym (starts_joined time times))

pub returns : goal.returns
returns g c = put_all _ _ _ c.args.starts.now
    (omega (arith, c.in-len1-up.len_at_least)) c.in_ok-put_marked.ensures c.in_ok-put_more.ensures
