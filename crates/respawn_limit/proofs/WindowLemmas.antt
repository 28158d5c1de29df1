-- Ten starts are enough: the window is full by the last ten times noted exactly if it is full by all of them.
use Rattle.respawn_limit.proofs.Words.{◌≡◌, ℕ, ◌+◌, ◌-◌, ◌<◌, ◌≤◌, Bool, true, false, cond, inl, inr, List, [], ◌∷◌}
use Rattle.respawn_limit.proofs.Words.{◌++◌, length, get_or, take, drop, refl, ◌∙◌, ap, arith, length-append}
use Rattle.respawn_limit.proofs.Words.{length-drop, nat_le, Option, Some, None, All, count_by, AllPass, IsNonDecreasing}
use Rattle.respawn_limit.proofs.Words.{cases_Bool, cases_lt, nat_tests, get_or-drop, get_or-take, length-take-le}
use Rattle.respawn_limit.proofs.Words.{drop-append-le, drop-drop, All-head, All-tail, All-from_get_or, sum_by-cons}
use Rattle.respawn_limit.proofs.Words.{sum_by-take-drop, count_by-le-length, STARTS, is_recent, is_full, last_starts}
use Rattle.respawn_limit.proofs.Words.{answer, window_answer, KeepsLastStarts}
use Rattle.std.proofs.lemmas.List.Sorted.{IsNonDecreasingBy-push, IsNonDecreasingBy-drop}

-- if all elements pass a test, the count is the length
pub count_all : (p : ℕ → Bool) (xs : List ℕ) → AllPass p xs → count_by p xs ≡ length xs
count_all p [] each = refl
count_all p (x ∷ xs) each =
    let here : p x ≡ true = All-head (λ y. p y ≡ true) x xs each in
    let rest : count_by p xs ≡ length xs = count_all p xs (All-tail (λ y. p y ≡ true) x xs each) in
    sum_by-cons (λ y. cond (p y) 1 0) x xs ∙ rw here (omega (arith, rest))

-- if no element passes a test, the count is 0
pub count_none : (p : ℕ → Bool) (xs : List ℕ) → All (λ y. p y ≡ false) xs → count_by p xs ≡ 0
count_none p [] each = refl
count_none p (x ∷ xs) each =
    let here : p x ≡ false = All-head (λ y. p y ≡ false) x xs each in
    let rest : count_by p xs ≡ 0 = count_none p xs (All-tail (λ y. p y ≡ false) x xs each) in
    sum_by-cons (λ y. cond (p y) 1 0) x xs ∙ rw here (omega (arith, rest))

-- if the first element fails, the count is at most the length of the rest
count_after_no : (p : ℕ → Bool) (x : ℕ) (xs : List ℕ) → p x ≡ false → count_by p (x ∷ xs) ≤ length xs
count_after_no p x xs here =
    rw (sum_by-cons (λ y. cond (p y) 1 0) x xs, here) (omega (arith, count_by-le-length p xs))

-- if an earlier start counts, a later one counts
recent_later : (now early late : ℕ) → early ≤ late → is_recent now early ≡ true → is_recent now late ≡ true
recent_later now early late le h = grind (arith, nat_tests)

-- if a later start no longer counts, an earlier one does not
old_earlier : (now early late : ℕ) → early ≤ late → is_recent now late ≡ false → is_recent now early ≡ false
old_earlier now early late le h = grind (arith, nat_tests)

-- a test that passes when at least k are counted is the test for at least k
fits_yes : (k n : ℕ) (b : Bool) → k ≤ n → b ≡ true → nat_le k n ≡ b
fits_yes k n b le is = grind (arith, nat_tests)

fits_no : (k n : ℕ) (b : Bool) → n < k → b ≡ false → nat_le k n ≡ b
fits_no k n b lt is = grind (arith, nat_tests)

-- if a part contains at least k, so does the whole
more : (k a b c : ℕ) → a + b ≡ c → nat_le k b ≡ true → nat_le k b ≡ nat_le k c
more k a b c sum h = grind (arith, nat_tests)

-- k starts all count exactly if the first of them does
pub full_by_first : (k now : ℕ) (xs : List ℕ) → IsNonDecreasing xs → length xs ≡ k → 0 < k
    → nat_le k (count_by (is_recent now) xs) ≡ is_recent now (get_or xs 0 0)
full_by_first k now [] ordered size some = absurd (omega arith)
full_by_first k now (x ∷ xs) ordered size some =
    elim (cases_Bool (is_recent now x)) [
      | inl counts ↦
          let each : AllPass (is_recent now) (x ∷ xs) =
          All-from_get_or (λ y. is_recent now y ≡ true) (x ∷ xs) 0
          (λ i within. recent_later now x (get_or (x ∷ xs) i 0) (ordered 0 i 0 (omega arith) within) counts) in
          let all : count_by (is_recent now) (x ∷ xs) ≡ length (x ∷ xs) = count_all (is_recent now) (x ∷ xs) each in
          fits_yes k (count_by (is_recent now) (x ∷ xs)) (is_recent now x) (omega (arith, all, size)) counts
      | inr aged ↦
          fits_no k (count_by (is_recent now) (x ∷ xs)) (is_recent now x)
          (omega (arith, count_after_no (is_recent now) x xs aged, size)) aged
    ]

-- the same, if n starts come before the last k
longer : (k now : ℕ) (noted : List ℕ) (n : ℕ) → IsNonDecreasing noted → 0 < k → n + k ≡ length noted
    → nat_le k (count_by (is_recent now) (drop n noted)) ≡ nat_le k (count_by (is_recent now) noted)
longer k now noted n ordered some size =
    let p : ℕ → Bool = is_recent now in
    let split : count_by p (take n noted) + count_by p (drop n noted) ≡ count_by p noted =
    sum_by-take-drop (λ y. cond (p y) 1 0) noted n in
    let kept_size : length (drop n noted) ≡ k = omega (arith, length-drop n noted) in
    let kept_ordered : IsNonDecreasing (drop n noted) = IsNonDecreasingBy-drop (λ x. x) n noted ordered in
    let kept_full : nat_le k (count_by p (drop n noted)) ≡ p (get_or (drop n noted) 0 0) =
    full_by_first k now (drop n noted) kept_ordered kept_size some in
    elim (cases_Bool (p (get_or (drop n noted) 0 0))) [
      | inl counts ↦ more k (count_by p (take n noted)) (count_by p (drop n noted)) (count_by p noted) split
          (kept_full ∙ counts)
      | inr aged ↦
          let first : get_or (drop n noted) 0 0 ≡ get_or noted n 0 =
          get_or-drop n noted 0 0 ∙ ap (λ i. get_or noted i 0) (omega arith) in
          let old : All (λ y. p y ≡ false) (take n noted) =
          All-from_get_or (λ y. p y ≡ false) (take n noted) 0 (λ i within.
          let below : i < n = omega (arith, length-take-le n noted (omega arith)) in
          let le : get_or noted i 0 ≤ get_or noted n 0 = ordered i n 0 (omega arith) (omega arith) in
          rw (get_or-take n noted i 0 below)
          (old_earlier now (get_or noted i 0) (get_or noted n 0) le (rw first at aged))) in
          let none : count_by p (take n noted) ≡ 0 = count_none p (take n noted) old in
          ap (nat_le k) (omega (arith, split, none))
    ]

-- the last k starts all count exactly if k of all of them do
pub full_by_last : (k now : ℕ) (noted : List ℕ) → IsNonDecreasing noted → 0 < k
    → nat_le k (count_by (is_recent now) (drop (length noted - k) noted)) ≡ nat_le k (count_by (is_recent now) noted)
full_by_last k now noted ordered some = elim (cases_lt k (length noted)) [
  | inr short ↦
      let none : length noted - k ≡ 0 = omega arith in
      rw none refl
  | inl long ↦ longer k now noted (length noted - k) ordered some (omega arith)
]

-- the window is full by the last ten times exactly if it is full by all of them
pub is_full-last_starts : (noted : List ℕ) (now : ℕ) → IsNonDecreasing noted
    → is_full (last_starts noted) now ≡ is_full noted now
is_full-last_starts noted now ordered = full_by_last STARTS now noted ordered (omega arith)

-- the answer of the window by the last ten times is the answer by all of them
pub window_answer-last_starts : (noted : List ℕ) (now : ℕ) → IsNonDecreasing noted
    → window_answer (last_starts noted) now ≡ window_answer noted now
window_answer-last_starts noted now ordered = rw (is_full-last_starts noted now ordered) refl

-- to keep the last k, append a time and keep the last k again is to keep the last k of all times
pub drop_last_push : (k : ℕ) (noted : List ℕ) (y : ℕ)
    → drop (length (drop (length noted - k) noted ++ y ∷ []) - k) (drop (length noted - k) noted ++ y ∷ [])
    ≡ drop (length (noted ++ y ∷ []) - k) (noted ++ y ∷ [])
drop_last_push k noted y =
    let n : ℕ = length noted - k in
    let joined : drop n (noted ++ y ∷ []) ≡ drop n noted ++ y ∷ [] = drop-append-le n noted (y ∷ []) (omega arith) in
    rw (← joined) (drop-drop (length (drop n (noted ++ y ∷ [])) - k) n (noted ++ y ∷ [])
    ∙ ap (λ m. drop m (noted ++ y ∷ [])) (omega (arith, length-drop n (noted ++ y ∷ []), length-append noted (y ∷ []))))

-- at most ten starts are kept
pub length-last_starts : (times : List ℕ) → length (last_starts times) ≤ STARTS
length-last_starts times = omega (arith, length-drop (length times - STARTS) times)

-- a bound on the times that are kept bounds the last of all times
last_kept : (k : ℕ) (noted : List ℕ) (now d : ℕ) → 0 < k → All (λ start. start ≤ now) (drop (length noted - k) noted)
    → 0 < length noted → get_or noted (length noted - 1) d ≤ now
last_kept k noted now d ten late some =
    let n : ℕ = length noted - k in
    let at : get_or (drop n noted) (length noted - 1 - n) d ≡ get_or noted (length noted - 1) d =
    get_or-drop n noted (length noted - 1 - n) d ∙ ap (λ i. get_or noted i d) (omega arith) in
    rw at at (late (length noted - 1 - n) d (omega (arith, length-drop n noted)))

-- the last ten of ordered times are ordered
pub IsNonDecreasing-last_starts : (times : List ℕ) → IsNonDecreasing times → IsNonDecreasing (last_starts times)
IsNonDecreasing-last_starts times ordered = IsNonDecreasingBy-drop (λ x. x) (length times - STARTS) times ordered

-- appending a time that is no less than the others keeps the order
pub IsNonDecreasing-push : (starts : List ℕ) (now : ℕ) → IsNonDecreasing starts → All (λ start. start ≤ now) starts
    → IsNonDecreasing (starts ++ now ∷ [])
IsNonDecreasing-push starts now ordered late =
    IsNonDecreasingBy-push (λ x. x) starts now ordered (λ d some. late (length starts - 1) d (omega arith))

-- a start that is no earlier than those kept extends the times noted
pub KeepsLastStarts-push : (starts noted : List ℕ) (now : ℕ) → KeepsLastStarts starts noted
    → All (λ start. start ≤ now) starts → KeepsLastStarts (last_starts (starts ++ now ∷ [])) (noted ++ now ∷ [])
KeepsLastStarts-push starts noted now known late = record {
  last = rw known.last (drop_last_push STARTS noted now);
  ordered = IsNonDecreasingBy-push (λ x. x) noted now known.ordered
      (λ d some. last_kept STARTS noted now d (omega arith) (rw known.last at late) some);
}

-- the answer by the last ten times is the answer by all of them
pub answer-last_starts : (noted : List ℕ) (held : Option ℕ) (now : ℕ) → IsNonDecreasing noted
    → answer (last_starts noted) held now ≡ answer noted held now
answer-last_starts noted None now ordered = window_answer-last_starts noted now ordered
answer-last_starts noted (Some end) now ordered = rw (window_answer-last_starts noted now ordered) refl

-- the answer by the starts that are kept is the answer by all times noted
pub answer-KeepsLastStarts : (starts noted : List ℕ) (held : Option ℕ) (now : ℕ) → KeepsLastStarts starts noted
    → answer starts held now ≡ answer noted held now
answer-KeepsLastStarts starts noted held now known = rw known.last (answer-last_starts noted held now known.ordered)
