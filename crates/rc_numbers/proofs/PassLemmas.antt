-- Lemmas on the passes that give numbers: what a height says about the needs, and how many places remain.
use Rattle.rc_numbers.proofs.Words.{◌≡◌, ◌⊎◌, ℕ, zero, suc, ◌+◌, ◌-◌, ◌<◌, ◌≤◌, Bool, true, false, cond, ◌==◌, ◌||◌}
use Rattle.rc_numbers.proofs.Words.{max, List, [], ◌∷◌, length, get_or, drop, set, replicate, refl, sym, ap, ◌∙◌, subst}
use Rattle.rc_numbers.proofs.Words.{arith, inl, inr, bytes_eq, false_from_ne_true, true≢false, eqb-true, eq-eqb}
use Rattle.rc_numbers.proofs.Words.{InRange, IsLeast, IsNumbering, Needs, AreHeights, IsPartial, IsStuck, height_from}
use Rattle.rc_numbers.proofs.Words.{raised, settled, zeros}
use Rattle.std.proofs.lemmas.Slice.Eq.{bytes_eq-Decides}

-- a positive number is not 0
pub not_zero : (n : ℕ) → 0 < n → (n == 0) ≡ false
not_zero n some = false_from_ne_true (n == 0) (λ is. let e : n ≡ 0 = eqb-true n 0 is in omega arith)

positive : (n : ℕ) → (n == 0) ≡ false → 0 < n
positive zero is = absurd (true≢false is)
positive (suc n) is = omega arith

raised_some : (h n : ℕ) → 0 < h → 0 < n → raised h n ≡ max h (n + 1)
raised_some h n high some = rw (not_zero h high, not_zero n some) refl

-- a raised height that is not 0
record IsRaised (h n : ℕ) : Type 0 where
  pub height : 0 < h
  pub number : 0 < n
  pub kept : h ≤ raised h n
  pub above : n < raised h n

is_raised_by : (h n : ℕ) (x y : Bool) → (h == 0) ≡ x → (n == 0) ≡ y → 0 < raised h n → IsRaised h n
is_raised_by h n true y at_h at_n is = absurd (let e : raised h n ≡ 0 = rw at_h refl in omega arith)
is_raised_by h n false true at_h at_n is = absurd (let e : raised h n ≡ 0 = rw (at_h, at_n) refl in omega arith)
is_raised_by h n false false at_h at_n is =
    let e : raised h n ≡ max h (n + 1) = rw (at_h, at_n) refl in
    let high : 0 < h = positive h at_h in
    let some : 0 < n = positive n at_n in
    record { height = high; number = some; kept = omega arith; above = omega arith }

is_raised : (h n : ℕ) → 0 < raised h n → IsRaised h n
is_raised h n is = is_raised_by h n (h == 0) (n == 0) refl refl is

raised_le_by : (h n bound : ℕ) (x : Bool) → h ≤ bound → n < bound → cond x 0 (max h (n + 1)) ≤ bound
raised_le_by h n bound true low less = omega arith
raised_le_by h n bound false low less = omega arith

raised_le : (h n bound : ℕ) → h ≤ bound → n < bound → raised h n ≤ bound
raised_le h n bound low less = raised_le_by h n bound (h == 0 || n == 0) low less

-- the place needs one without a number
abbrev pub Blocked : List ℕ → ℕ → List (ℕ × ℕ) → Type 0
Blocked numbers a edges = (b : ℕ) × Needs edges a b × (get_or numbers b 0 ≡ 0)

blocked_later : (numbers : List ℕ) (a : ℕ) (e : ℕ × ℕ) (edges : List (ℕ × ℕ)) → Blocked numbers a edges
    → Blocked numbers a (e ∷ edges)
blocked_later numbers a e edges g = (g.0, inr g.1, g.2)

none_by : (numbers : List ℕ) (a h : ℕ) (e : ℕ × ℕ) (edges : List (ℕ × ℕ)) (x : Bool) (n : ℕ) → (e.0 == a) ≡ x
    → get_or numbers e.1 0 ≡ n → 0 < h → ((k : ℕ) → 0 < k → height_from numbers a k edges ≡ 0 → Blocked numbers a edges)
    → height_from numbers a (cond x (raised h n) h) edges ≡ 0 → Blocked numbers a (e ∷ edges)
none_by numbers a h e edges false n here at some next is = blocked_later numbers a e edges (next h some is)
none_by numbers a h e edges true zero here at some next is = (e.1, inl (eqb-true e.0 a here, refl), at)
none_by numbers a h e edges true (suc n) here at some next is =
    let high : raised h (suc n) ≡ max h (suc n + 1) = raised_some h (suc n) some (omega arith) in
    blocked_later numbers a e edges (next (raised h (suc n)) (omega arith) is)

-- a place without a height needs one without a number
pub height-none : (numbers : List ℕ) (a h : ℕ) (edges : List (ℕ × ℕ)) → 0 < h → height_from numbers a h edges ≡ 0
    → Blocked numbers a edges
height-none numbers a h [] some is = absurd (omega arith)
height-none numbers a h (e ∷ edges) some is = none_by numbers a h e edges (e.0 == a)
    (get_or numbers e.1 0) refl refl some (λ k high next. height-none numbers a k edges high next) is

-- a height is above each number that is needed
pub record IsAbove (numbers : List ℕ) (a h : ℕ) (edges : List (ℕ × ℕ)) (high : ℕ) : Type 0 where
  pub some : 0 < h
  pub kept : h ≤ high
  pub above : (b : ℕ) → Needs edges a b → (0 < get_or numbers b 0) × (get_or numbers b 0 < high)

above_by : (numbers : List ℕ) (a h : ℕ) (e : ℕ × ℕ) (edges : List (ℕ × ℕ)) (high : ℕ) (x : Bool) → (e.0 == a) ≡ x
    → IsAbove numbers a (cond x (raised h (get_or numbers e.1 0)) h) edges high → IsAbove numbers a h (e ∷ edges) high
above_by numbers a h e edges high false here up = record {
  some = up.some;
  kept = up.kept;
  above = λ b need. elim need [
    | inl at ↦ absurd (true≢false (sym (eq-eqb e.0 a at.0) ∙ here))
    | inr later ↦ up.above b later
  ];
}
above_by numbers a h e edges high true here up =
    let rise = is_raised h (get_or numbers e.1 0) up.some in
    record {
      some = rise.height;
      kept = omega (arith, rise.kept, up.kept);
      above = λ b need. elim need [
        | inl at ↦ (let e_first : (0 < get_or numbers e.1 0)
            × (get_or numbers e.1 0 < high) = (rise.number, omega (arith, rise.above, up.kept)) in
            subst (λ c. (0 < get_or numbers c 0) × (get_or numbers c 0 < high)) at.1 e_first)
        | inr later ↦ up.above b later
      ];
    }

pub height-above : (numbers : List ℕ) (a h : ℕ) (edges : List (ℕ × ℕ)) → 0 < height_from numbers a h edges
    → IsAbove numbers a h edges (height_from numbers a h edges)
height-above numbers a h [] is = record { some = is; kept = omega arith; above = λ b need. absurd need }
height-above numbers a h (e ∷ edges) is =
    above_by numbers a h e edges _ (e.0 == a) refl
    (height-above numbers a (cond (e.0 == a) (raised h (get_or numbers e.1 0)) h) edges is)

least_by : (numbers : List ℕ) (a h : ℕ) (e : ℕ × ℕ) (bound : ℕ) (x : Bool) → (e.0 == a) ≡ x → h ≤ bound
    → (e.0 ≡ a → get_or numbers e.1 0 < bound) → cond x (raised h (get_or numbers e.1 0)) h ≤ bound
least_by numbers a h e bound false here low need = low
least_by numbers a h e bound true here low need =
    raised_le h (get_or numbers e.1 0) bound low (need (eqb-true e.0 a here))

-- a height is at most any bound that is above each number that is needed
pub height-least : (numbers : List ℕ) (a h : ℕ) (edges : List (ℕ × ℕ)) (bound : ℕ) → h ≤ bound
    → ((b : ℕ) → Needs edges a b → get_or numbers b 0 < bound) → height_from numbers a h edges ≤ bound
height-least numbers a h [] bound low needs = low
height-least numbers a h (e ∷ edges) bound low needs =
    height-least numbers a (cond (e.0 == a) (raised h (get_or numbers e.1 0)) h) edges bound
    (least_by numbers a h e bound (e.0 == a) refl low (λ at. needs e.1 (inl (at, refl))))
    (λ b need. needs b (inr need))

-- both places of a need are below the count
pub Needs-range : (count : ℕ) (edges : List (ℕ × ℕ)) (a b : ℕ) → InRange count edges → Needs edges a b
    → (a < count) × (b < count)
Needs-range count [] a b range need = absurd need
Needs-range count (e ∷ edges) a b range need = elim need [
  | inl at ↦ (let first = range 0 (omega arith) in
      (subst (λ c. c < count) at.0 first.0, subst (λ c. c < count) at.1 first.1))
  | inr later ↦ Needs-range count edges a b (λ k within. range (suc k) (omega arith)) later
]

-- after a number is given, one place less has none
pub zeros-set : (numbers : List ℕ) (a n : ℕ) → a < length numbers → get_or numbers a 0 ≡ 0 → 0 < n
    → zeros (set numbers a n) + 1 ≡ zeros numbers
zeros-set (x ∷ numbers) (suc a) n within none some =
    let rest : zeros (set numbers a n) + 1 ≡ zeros numbers = zeros-set numbers a n (omega arith) none some in
    omega arith
zeros-set numbers a n within none some = grind (arith, not_zero)

pub zeros-replicate : (n : ℕ) → zeros (replicate n 0) ≡ n
zeros-replicate zero = refl
zeros-replicate (suc n) = let rest : zeros (replicate n 0) ≡ n = zeros-replicate n in omega arith

zeros_le_by : (x : ℕ) (numbers : List ℕ) (y : Bool) → zeros numbers ≤ length numbers
    → cond y 1 0 + zeros numbers ≤ length (x ∷ numbers)
zeros_le_by x numbers true rest = omega arith
zeros_le_by x numbers false rest = omega arith

pub zeros-le : (numbers : List ℕ) → zeros numbers ≤ length numbers
zeros-le [] = omega arith
zeros-le (x ∷ numbers) = zeros_le_by x numbers (x == 0) (zeros-le numbers)

pub length-settled : (numbers heights : List ℕ) → length (settled numbers heights) ≡ length numbers
length-settled [] heights = refl
length-settled (x ∷ numbers) [] = refl
length-settled (x ∷ numbers) (h ∷ heights) = let rest : length (settled numbers heights) ≡ length numbers =
    length-settled numbers heights in omega arith

pub get_or-settled : (numbers heights : List ℕ) (a : ℕ) → length heights ≡ length numbers
    → get_or (settled numbers heights) a 0 ≡ cond (get_or numbers a 0 == 0) (get_or heights a 0) (get_or numbers a 0)
get_or-settled [] [] a same = refl
get_or-settled [] (h ∷ heights) a same = absurd (omega arith)
get_or-settled (x ∷ numbers) [] a same = absurd (omega arith)
get_or-settled (x ∷ numbers) (h ∷ heights) zero same = refl
get_or-settled (x ∷ numbers) (h ∷ heights) (suc a) same = get_or-settled numbers heights a (omega arith)

-- a pass leaves the numbers unchanged, or fewer places without one
abbrev pub Fewer : List ℕ → List ℕ → Type 0
Fewer numbers next = (next ≡ numbers) ⊎ (zeros next < zeros numbers)

fewer_le : (numbers next : List ℕ) → Fewer numbers next → zeros next ≤ zeros numbers
fewer_le numbers next h = grind arith

fewer_first : (x h : ℕ) (numbers next : List ℕ) → (x == 0) ≡ true → Fewer numbers next → Fewer (x ∷ numbers) (h ∷ next)
fewer_first x zero numbers next none (inl same) = let e : x ≡ 0 = eqb-true x 0 none in inl (rw (e, same) refl)
fewer_first x zero numbers next none (inr less) = let e : x ≡ 0 = eqb-true x 0 none in inr (rw e (omega arith))
fewer_first x (suc h) numbers next none rest =
    inr (rw (none, not_zero (suc h) (omega arith)) (omega (arith, fewer_le numbers next rest)))

fewer_kept : (x : ℕ) (numbers next : List ℕ) → Fewer numbers next → Fewer (x ∷ numbers) (x ∷ next)
fewer_kept x numbers next (inl same) = inl (ap (λ t. x ∷ t) same)
fewer_kept x numbers next (inr less) = inr (omega arith)

fewer_by : (x h : ℕ) (numbers next : List ℕ) (y : Bool) → (x == 0) ≡ y → Fewer numbers next
    → Fewer (x ∷ numbers) (cond y h x ∷ next)
fewer_by x h numbers next true none rest = fewer_first x h numbers next none rest
fewer_by x h numbers next false some rest = fewer_kept x numbers next rest

pub fewer : (numbers heights : List ℕ) → Fewer numbers (settled numbers heights)
fewer [] heights = inl refl
fewer (x ∷ numbers) [] = inl refl
fewer (x ∷ numbers) (h ∷ heights) = fewer_by x h numbers (settled numbers heights) (x == 0) refl (fewer numbers heights)

length-zeros : (n : ℕ) → length (replicate {A = ℕ} n 0) ≡ n
length-zeros zero = refl
length-zeros (suc n) = let rest = length-zeros n in omega arith

pub get_or-zeros : (n a : ℕ) → ◌≡◌ {A = ℕ} (get_or (replicate n 0) a 0) 0
get_or-zeros zero a = refl
get_or-zeros (suc n) zero = refl
get_or-zeros (suc n) (suc a) = get_or-zeros n a

get_or-some : (xs : List ℕ) (a : ℕ) → 0 < get_or xs a 0 → a < length xs
get_or-some [] a some = absurd (omega arith)
get_or-some (x ∷ xs) zero some = omega arith
get_or-some (x ∷ xs) (suc a) some = let rest = get_or-some xs a some in omega arith

stuck_by : (numbers heights : List ℕ) (a : ℕ) → get_or numbers a 0 ≡ 0
    → get_or (settled numbers heights) a 0 ≡ cond (get_or numbers a 0 == 0) (get_or heights a 0) (get_or numbers a 0)
    → settled numbers heights ≡ numbers → get_or heights a 0 ≡ 0
stuck_by numbers heights a none at still = grind arith

-- at the start no place has a number
pub IsPartial-start : (count : ℕ) (edges : List (ℕ × ℕ)) → IsPartial count edges (replicate count 0)
IsPartial-start count edges = grind (arith, length-zeros, get_or-zeros, zeros-replicate)

-- the number of a place after a pass: its own, or its height if it had none
abbrev After : List ℕ → List ℕ → ℕ → Type 0
After numbers heights a =
    ((0 < get_or numbers a 0) × (get_or (settled numbers heights) a 0 ≡ get_or numbers a 0))
    ⊎ ((get_or numbers a 0 ≡ 0) × (get_or (settled numbers heights) a 0 ≡ get_or heights a 0))

after_by : (numbers heights : List ℕ) (a : ℕ) (y : Bool) → (get_or numbers a 0 == 0) ≡ y
    → get_or (settled numbers heights) a 0 ≡ cond y (get_or heights a 0) (get_or numbers a 0) → After numbers heights a
after_by numbers heights a true none is = inr (eqb-true (get_or numbers a 0) 0 none, is)
after_by numbers heights a false some is = inl (positive (get_or numbers a 0) some, is)

after : (numbers heights : List ℕ) (a : ℕ) → length heights ≡ length numbers → After numbers heights a
after numbers heights a same =
    after_by numbers heights a (get_or numbers a 0 == 0) refl (get_or-settled numbers heights a same)

-- a place that had a number keeps it
kept_number : (numbers heights : List ℕ) (a : ℕ) → length heights ≡ length numbers → 0 < get_or numbers a 0
    → get_or (settled numbers heights) a 0 ≡ get_or numbers a 0
kept_number numbers heights a same some = grind (arith, after)

module _ (count : ℕ) (edges : List (ℕ × ℕ)) (numbers heights : List ℕ) (p : IsPartial count edges numbers)
    (same : length heights ≡ length numbers) (all : AreHeights edges numbers heights) where
  are : (a : ℕ) → 0 < get_or heights a 0 → get_or heights a 0 ≡ height_from numbers a 1 edges
  are a some = all a (rw (← same) (get_or-some heights a some))

  height_small : (a : ℕ) → 0 < get_or heights a 0 → get_or heights a 0 + zeros numbers ≤ count + 1
  height_small a some =
      let high : height_from numbers a 1 edges ≤ count - zeros numbers + 1 =
      height-least numbers a 1 edges (count - zeros numbers + 1) (omega arith) (λ b need. omega (arith, p.small b)) in
      omega (arith, are a some, zeros-le numbers, p.size)

  small_by : (a h : ℕ) → get_or heights a 0 ≡ h → zeros (settled numbers heights) < zeros numbers
      → get_or (settled numbers heights) a 0 ≡ get_or heights a 0
      → get_or (settled numbers heights) a 0 + zeros (settled numbers heights) ≤ count
  small_by a zero at less is = omega (arith, zeros-le numbers, p.size)
  small_by a (suc h) at less is = omega (arith, height_small a (omega arith))

  least_new : (number : ℕ → ℕ) → IsNumbering edges number → (a h : ℕ) → get_or heights a 0 ≡ h
      → get_or (settled numbers heights) a 0 ≡ get_or heights a 0 → get_or (settled numbers heights) a 0 ≤ number a
  least_new number is a zero at new = omega arith
  least_new number is a (suc h) at new = grind (arith, height-least, are)

  small_new : (a : ℕ) (x : Fewer numbers (settled numbers heights)) → get_or numbers a 0 ≡ 0 → get_or (settled numbers
      heights) a 0 ≡ get_or heights a 0 → get_or (settled numbers heights) a 0 + zeros (settled numbers heights) ≤ count
  small_new a x none is = grind (arith, small_by)

  pub IsPartial-next : IsPartial count edges (settled numbers heights)
  IsPartial-next =
      grind (arith, length-settled, after, fewer_le, fewer, small_new, kept_number, are, height-above, least_new)

-- if a pass changes nothing, each place without a number needs one without a number
pub IsStuck-same : (count : ℕ) (edges : List (ℕ × ℕ)) (numbers heights : List ℕ) → length numbers ≡ count
    → length heights ≡ length numbers → AreHeights edges numbers heights → settled numbers heights ≡ numbers
    → IsStuck count edges numbers
IsStuck-same count edges numbers heights size same are still a within none =
    let at = get_or-settled numbers heights a same in
    let flat : get_or heights a 0 ≡ 0 = stuck_by numbers heights a none at still in
    height-none numbers a 1 edges (omega arith) (sym (are a (omega (arith, size))) ∙ flat)

-- the numbers and heights from an index on
pub settled-drop : (numbers heights : List ℕ) (k : ℕ) → k < length numbers → length heights ≡ length numbers
    → settled (drop k numbers) (drop k heights) ≡ cond (get_or numbers k 0 == 0) (get_or heights k 0)
    (get_or numbers k 0) ∷ settled (drop (k + 1) numbers) (drop (k + 1) heights)
settled-drop (x ∷ numbers) (h ∷ heights) (suc k) within same =
    let more : suc k + 1 ≡ suc (k + 1) = omega arith in
    rw more (settled-drop numbers heights k (omega arith) (omega arith))
settled-drop numbers heights k within same = grind arith

-- lists that compare equal are equal
pub same_lists : (xs ys : List ℕ) → bytes_eq xs ys ≡ true → xs ≡ ys
same_lists xs ys is = (bytes_eq-Decides xs ys).0 is

pub same_self : (xs ys : List ℕ) → xs ≡ ys → bytes_eq xs ys ≡ true
same_self xs ys e = (bytes_eq-Decides xs ys).1 e

-- if each place has a number, the numbers are the least numbering
pub IsLeast-whole : (count : ℕ) (edges : List (ℕ × ℕ)) (numbers : List ℕ) → InRange count edges
    → IsPartial count edges numbers → ((a : ℕ) → a < count → 0 < get_or numbers a 0) → IsLeast count edges numbers
IsLeast-whole count edges numbers range p all = record {
  some = λ a within. all a within;
  rises = λ a b need. (p.rises a b need (all a (Needs-range count edges a b range need).0)).1;
  least = p.least;
}
