-- Lemmas on walks among places, and on the cycle in a long walk.
use Rattle.rc_numbers.proofs.Words.{◌≡◌, ℕ, zero, suc, ◌+◌, ◌-◌, ◌<◌, ◌≤◌, Bool, true, false, cond, ◌==◌, ◌&&◌, List}
use Rattle.rc_numbers.proofs.Words.{[], ◌∷◌, ◌++◌, length, get_or, take, drop, set, replicate, refl, sym, ap, ◌∙◌}
use Rattle.rc_numbers.proofs.Words.{subst, arith, append-nil, inl, inr, and_parts, eqb-true, eq-eqb, true≢false}
use Rattle.rc_numbers.proofs.Words.{AllBelow, Earliest, IsCycle, IsNumbering, IsClosedWalk, Needs, Walk, IsStuck}
use Rattle.rc_numbers.proofs.Words.{need_from}
use Rattle.rc_numbers.proofs.PassLemmas.{get_or-zeros}

-- there is a walk from each place of a path to this place
abbrev pub Trail : List (ℕ × ℕ) → List ℕ → ℕ → Type 0
Trail edges [] at = Unit {0}
Trail edges (x ∷ path) at = Walk edges x path at × Trail edges path at

Walk-push : (edges : List (ℕ × ℕ)) (a : ℕ) (xs : List ℕ) (at next : ℕ) → Walk edges a xs at → Needs edges at next
    → Walk edges a (xs ++ at ∷ []) next
Walk-push edges a [] at next walk need = (walk, need)
Walk-push edges a (x ∷ xs) at next walk need = (walk.0, Walk-push edges x xs at next walk.1 need)

pub Trail-push : (edges : List (ℕ × ℕ)) (path : List ℕ) (at next : ℕ) → Trail edges path at → Needs edges at next
    → Trail edges (path ++ at ∷ []) next
Trail-push edges [] at next trail need = (need, tt)
Trail-push edges (x ∷ path) at next trail need =
    (Walk-push edges x path at next trail.0 need, Trail-push edges path at next trail.1 need)

-- a path that contains the place to which it leads has a ring
pub Trail-ring : (edges : List (ℕ × ℕ)) (path : List ℕ) (at m : ℕ) → Trail edges path at → m < length path
    → get_or path m 0 ≡ at → IsClosedWalk edges (drop m path)
Trail-ring edges [] at m trail within is = absurd (omega arith)
Trail-ring edges (x ∷ path) at zero trail within is = let P : ℕ → Type 0 = λ b. Walk edges x path b in
    subst P (sym is) trail.0
Trail-ring edges (x ∷ path) at (suc m) trail within is = Trail-ring edges path at m trail.1 (omega arith) is

Walk-join : (edges : List (ℕ × ℕ)) (a : ℕ) (xs : List ℕ) (b : ℕ) (ys : List ℕ) (c : ℕ) → Walk edges a xs b
    → Walk edges b ys c → Walk edges a (xs ++ b ∷ ys) c
Walk-join edges a [] b ys c first second = (first, second)
Walk-join edges a (x ∷ xs) b ys c first second = (first.0, Walk-join edges x xs b ys c first.1 second)

Walk-split : (edges : List (ℕ × ℕ)) (a : ℕ) (xs : List ℕ) (b : ℕ) (ys : List ℕ) (c : ℕ) → Walk edges a (xs ++ b ∷ ys) c
    → Walk edges a xs b × Walk edges b ys c
Walk-split edges a [] b ys c walk = walk
Walk-split edges a (x ∷ xs) b ys c walk = let rest = Walk-split edges x xs b ys c walk.1 in ((walk.0, rest.0), rest.1)

-- a place that is least in two lists is least in both joined
Earliest-append : (w : ℕ) (xs ys : List ℕ) → Earliest w xs → Earliest w ys → Earliest w (xs ++ ys)
Earliest-append w [] ys first second = second
Earliest-append w (x ∷ xs) ys first second = (first.0, Earliest-append w xs ys first.1 second)

-- a ring that begins at another place
rotated : (edges : List (ℕ × ℕ)) (before : List ℕ) (w : ℕ) (ys : List ℕ) → IsClosedWalk edges (before ++ w ∷ ys)
    → Walk edges w (ys ++ before) w
rotated edges [] w ys ring = rw append-nil ring
rotated edges (a ∷ xs) w ys ring = let parts = Walk-split edges a xs w ys a ring in
    Walk-join edges w ys a xs w parts.1 parts.0

Earliest-parts : (w : ℕ) (before : List ℕ) (x : ℕ) (ys : List ℕ)
    → ((k : ℕ) → k < length (before ++ x ∷ ys) → w ≤ get_or (before ++ x ∷ ys) k 0) → Earliest w before × Earliest w ys
Earliest-parts w [] x [] all = (tt, tt)
Earliest-parts w [] x (y ∷ ys) all =
    (tt, (all 1 (omega arith), (Earliest-parts w [] y ys (λ k within. all (suc k) (omega arith))).1))
Earliest-parts w (b ∷ before) x ys all =
    let rest = Earliest-parts w before x ys (λ k within. all (suc k) (omega arith)) in
    ((all 0 (omega arith), rest.0), rest.1)

-- a list is split at an index
parts_at : (xs : List ℕ) (k : ℕ) → k < length xs
    → (drop k xs ≡ get_or xs k 0 ∷ drop (suc k) xs) × (xs ≡ take k xs ++ get_or xs k 0 ∷ drop (suc k) xs)
parts_at [] k within = absurd (omega arith)
parts_at (x ∷ xs) zero within = (refl, refl)
parts_at (x ∷ xs) (suc k) within = let rest = parts_at xs k (omega arith) in (rest.0, ap (λ t. x ∷ t) rest.1)

-- a ring, rotated to its least place, is a cycle
pub IsCycle-rotated : (edges : List (ℕ × ℕ)) (ring : List ℕ) (k : ℕ) → k < length ring → ((j : ℕ) → j < length ring
    → get_or ring k 0 ≤ get_or ring j 0) → IsClosedWalk edges ring → IsCycle edges (drop k ring ++ take k ring)
IsCycle-rotated edges ring k within least is =
    let w = get_or ring k 0 in
    let before = take k ring in
    let after = drop (suc k) ring in
    let parts = parts_at ring k within in
    let P : List ℕ → Type 0 = λ xs. IsClosedWalk edges xs in
    let Q : List ℕ → Type 0 = λ xs. (j : ℕ) → j < length xs → w ≤ get_or xs j 0 in
    let early = Earliest-parts w before w after (subst Q parts.1 least) in
    rw parts.0 (rotated edges before w after (subst P parts.1 is), Earliest-append w after before early.1 early.0)

-- if there is a cycle, there is no numbering
Walk-rises : (edges : List (ℕ × ℕ)) (number : ℕ → ℕ) → IsNumbering edges number → (a : ℕ) (xs : List ℕ) (b : ℕ)
    → Walk edges a xs b → number b < number a
Walk-rises edges number is a [] b walk = is.rises a b walk
Walk-rises edges number is a (x ∷ xs) b walk = let rest = Walk-rises edges number is x xs b walk.1 in
    omega (arith, is.rises a x walk.0)

pub IsCycle-none : (edges : List (ℕ × ℕ)) (cycle : List ℕ) → IsCycle edges cycle → (number : ℕ → ℕ)
    → IsNumbering edges number → ⊥
IsCycle-none edges cycle is number numbering = grind (arith, Walk-rises)

-- a place that is needed and has no number
abbrev pub Good : List (ℕ × ℕ) → List ℕ → ℕ → ℕ → Type 0
Good edges numbers a b = Needs edges a b × (get_or numbers b 0 ≡ 0)

kept_by : (all : List (ℕ × ℕ)) (numbers : List ℕ) (a found : ℕ) (e : ℕ × ℕ) (y : Bool) → ((e.0 == a) && (get_or numbers
    e.1 0 == 0)) ≡ y → Needs all e.0 e.1 → Good all numbers a found → Good all numbers a (cond y e.1 found)
kept_by all numbers a found e false is need good = good
kept_by all numbers a found e true is need good =
    let parts = and_parts (e.0 == a) (get_or numbers e.1 0 == 0) is in
    let P : ℕ → Type 0 = λ b. Needs all b e.1 in
    (subst P (eqb-true e.0 a parts.0) need, eqb-true (get_or numbers e.1 0) 0 parts.1)

need_kept : (all : List (ℕ × ℕ)) (numbers : List ℕ) (a found : ℕ) (edges : List (ℕ × ℕ)) → ((b c : ℕ) → Needs edges b c
    → Needs all b c) → Good all numbers a found → Good all numbers a (need_from numbers a found edges)
need_kept all numbers a found [] within good = good
need_kept all numbers a found (e ∷ edges) within good =
    need_kept all numbers a (cond ((e.0 == a) && (get_or numbers e.1 0 == 0)) e.1 found) edges
    (λ b c need. within b c (inr need))
    (kept_by all numbers a found e ((e.0 == a) && (get_or numbers e.1 0 == 0)) refl
    (within e.0 e.1 (inl (refl, refl))) good)

need_found : (all : List (ℕ × ℕ)) (numbers : List ℕ) (a found b : ℕ) (edges : List (ℕ × ℕ)) → ((c d : ℕ) → Needs edges c
    d → Needs all c d) → Needs edges a b → get_or numbers b 0 ≡ 0 → Good all numbers a (need_from numbers a found edges)
need_found all numbers a found b [] within need none = absurd need
need_found all numbers a found b (e ∷ edges) within need none = elim need [
  | inl at ↦
      (let here : (e.0 == a) ≡ true = eq-eqb e.0 a at.0 in
      let zero_at : get_or numbers e.1 0 ≡ 0 = rw at.1 none in
      let flat : (get_or numbers e.1 0 == 0) ≡ true = eq-eqb (get_or numbers e.1 0) 0 zero_at in
      let P : ℕ → Type 0 = λ c. Needs all c e.1 in
      let good : Good all numbers a e.1 = (subst P at.0 (within e.0 e.1 (inl (refl, refl))), zero_at) in
      rw (here, flat) (need_kept all numbers a e.1 edges (λ c d more. within c d (inr more)) good))
  | inr later ↦ need_found all numbers a (cond ((e.0 == a) && (get_or numbers e.1 0 == 0)) e.1 found) b edges
      (λ c d more. within c d (inr more)) later none
]

-- the place to which a place without a number leads
pub need-good : (count : ℕ) (edges : List (ℕ × ℕ)) (numbers : List ℕ) (a : ℕ) → IsStuck count edges numbers → a < count
    → get_or numbers a 0 ≡ 0 → Good edges numbers a (need_from numbers a 0 edges)
need-good count edges numbers a stuck within none =
    let g = stuck a within none in
    need_found edges numbers a 0 g.0 edges (λ c d need. need) g.1 g.2

-- a ring has a place
pub ring_some : (edges : List (ℕ × ℕ)) (ring : List ℕ) → IsClosedWalk edges ring → 0 < length ring
ring_some edges ring is = grind arith

none_dropped : (m k : ℕ) → k < length (drop {A = ℕ} m []) → ⊥
none_dropped zero k within = omega arith
none_dropped (suc m) k within = omega arith

none_taken : (m k : ℕ) → k < length (take {A = ℕ} m []) → ⊥
none_taken zero k within = omega arith
none_taken (suc m) k within = omega arith

-- parts of a list of places below a bound, and such lists joined
pub AllBelow-drop : (count : ℕ) (xs : List ℕ) (m : ℕ) → AllBelow count xs → AllBelow count (drop m xs)
AllBelow-drop count [] m all = λ k within. absurd (none_dropped m k within)
AllBelow-drop count (x ∷ xs) zero all = all
AllBelow-drop count (x ∷ xs) (suc m) all = AllBelow-drop count xs m (λ k within. all (suc k) (omega arith))

below_first : (count x : ℕ) (xs : List ℕ) → x < count → AllBelow count xs → AllBelow count (x ∷ xs)
below_first count x xs here rest zero within = here
below_first count x xs here rest (suc k) within = rest k (omega arith)

pub AllBelow-take : (count : ℕ) (xs : List ℕ) (m : ℕ) → AllBelow count xs → AllBelow count (take m xs)
AllBelow-take count [] m all = λ k within. absurd (none_taken m k within)
AllBelow-take count (x ∷ xs) zero all = λ k within. absurd (omega arith)
AllBelow-take count (x ∷ xs) (suc m) all = below_first count x (take m xs) (all 0 (omega arith))
    (AllBelow-take count xs m (λ k within. all (suc k) (omega arith)))

pub AllBelow-append : (count : ℕ) (xs ys : List ℕ) → AllBelow count xs → AllBelow count ys → AllBelow count (xs ++ ys)
AllBelow-append count [] ys first second = second
AllBelow-append count (x ∷ xs) ys first second = below_first count x (xs ++ ys) (first 0 (omega arith))
    (AllBelow-append count xs ys (λ k within. first (suc k) (omega arith)) second)

pub AllBelow-one : (count x : ℕ) → x < count → AllBelow count (x ∷ [])
AllBelow-one count x here = below_first count x [] here (λ k within. absurd (omega arith))

-- a mark is the index of its place in the path, plus one
abbrev pub Marked : List ℕ → List ℕ → Type 0
Marked marks path = (v m : ℕ) → get_or marks v 0 ≡ suc m → (m < length path) × (get_or path m 0 ≡ v)

get_or-first : (path : List ℕ) (x m : ℕ) → m < length path → get_or (path ++ x ∷ []) m 0 ≡ get_or path m 0
get_or-first [] x m within = absurd (omega arith)
get_or-first (y ∷ path) x zero within = refl
get_or-first (y ∷ path) x (suc m) within = get_or-first path x m (omega arith)

get_or-last : (path : List ℕ) (x m : ℕ) → m ≡ length path → get_or (path ++ x ∷ []) m 0 ≡ x
get_or-last [] x m is = rw is refl
get_or-last (y ∷ path) x zero is = absurd (omega arith)
get_or-last (y ∷ path) x (suc m) is = get_or-last path x m (omega arith)

length-push : (path : List ℕ) (x : ℕ) → length (path ++ x ∷ []) ≡ length path + 1
length-push [] x = refl
length-push (y ∷ path) x = let rest = length-push path x in omega arith

set-here : (marks : List ℕ) (at n : ℕ) → at < length marks → get_or (set marks at n) at 0 ≡ n
set-here [] at n within = absurd (omega arith)
set-here (x ∷ marks) zero n within = refl
set-here (x ∷ marks) (suc at) n within = set-here marks at n (omega arith)

set-other : (marks : List ℕ) (at v n : ℕ) → (at ≡ v → ⊥) → get_or (set marks at n) v 0 ≡ get_or marks v 0
set-other [] at v n other = refl
set-other (x ∷ marks) zero zero n other = absurd (other refl)
set-other (x ∷ marks) zero (suc v) n other = refl
set-other (x ∷ marks) (suc at) zero n other = refl
set-other (x ∷ marks) (suc at) (suc v) n other = set-other marks at v n (λ e. other (ap suc e))

marked_by : (marks path : List ℕ) (at n v m : ℕ) (y : Bool) → (at == v) ≡ y → at < length marks → n ≡ length path + 1
    → Marked marks path → get_or (set marks at n) v 0 ≡ suc m
    → (m < length (path ++ at ∷ [])) × (get_or (path ++ at ∷ []) m 0 ≡ v)
marked_by marks path at n v m true here within counted old is =
    grind (arith, eqb-true, set-here, length-push, get_or-last)
marked_by marks path at n v m false other within counted old is =
    let kept = set-other marks at v n (λ e. true≢false (sym (eq-eqb at v e) ∙ other)) in
    let was = old v m (sym kept ∙ is) in
    (omega (arith, length-push path at, was.0), get_or-first path at m was.0 ∙ was.1)

pub Marked-push : (marks path : List ℕ) (at n : ℕ) → at < length marks → n ≡ length path + 1 → Marked marks path
    → Marked (set marks at n) (path ++ at ∷ [])
Marked-push marks path at n within counted old v m is =
    marked_by marks path at n v m (at == v) refl within counted old is

pub Marked-start : (n : ℕ) → Marked (replicate n 0) []
Marked-start n v m is = absurd (let e = get_or-zeros n v in omega arith)

-- a place with a mark is in the path, at the index of the mark
pub marked_at : (marks path : List ℕ) (at n : ℕ) → Marked marks path → get_or marks at 0 ≡ n → 0 < n
    → (n - 1 < length path) × (get_or path (n - 1) 0 ≡ at)
marked_at marks path at zero marked is some = absurd (omega arith)
marked_at marks path at (suc m) marked is some =
    let e : suc m - 1 ≡ m = omega arith in
    rw e (marked at m is)
