-- Lemmas on texts in byte order: there is only one ascending list of the same texts.
use Rattle.rc_links.proofs.Words.{◌≡◌, ℕ, zero, suc, ◌+◌, ◌<◌, ◌≤◌, Bool, true, false, cond, List, [], ◌∷◌, length}
use Rattle.rc_links.proofs.Words.{get_or, map, refl, sym, ap, ◌∙◌, subst, arith, AllByRecursion, filter, sum_by}
use Rattle.rc_links.proofs.Words.{bytes_eq, false_from_ne_true, true≢false, bytes_eq-Decides, in_byte_order, is_before}
use Rattle.rc_links.proofs.Words.{placed}
use Rattle.std.specs.Cmp.{IsStrictWeakOrder}
use Rattle.std.specs.Cmp.Lexicographic.{slice_cmp}
use Rattle.std.specs.List.Sorted.{IsPermutation, IsSortedBy}
use Rattle.std.specs.Ordering.{is_eq, is_lt, nat_cmp, ordering_reverse}
use Rattle.std.specs.declared.cmp.Ordering.{Ordering}
use Rattle.std.specs.declared.cmp.Ordering.TheVariants.{Less, Equal, Greater}
use Rattle.std.proofs.lemmas.Cmp.{nat_list_cmp_total}
use Rattle.std.proofs.lemmas.List.Recursion.{is_sum_by}
use Rattle.std.proofs.lemmas.List.Sorted.{IsPermutation-cons, IsPermutation-map, IsPermutation-middle}
use Rattle.std.proofs.lemmas.List.Sorted.{IsPermutation-refl, IsPermutation-trans, ranks_by, sorted_far}
use Rattle.std.proofs.lemmas.List.Sorted.{sum_by-IsPermutation}
use Rattle.std.proofs.lemmas.Map.Text.{is_eq-slice_cmp}

order : IsStrictWeakOrder is_before
order = ranks_by nat_list_cmp_total (λ text. text)

not_before_itself : (x : List ℕ) → is_before x x ≡ false
not_before_itself x = false_from_ne_true (is_before x x) (λ is. true≢false (sym is ∙ order.one_way x x is))

pub same_bytes : (x y : List ℕ) → bytes_eq x y ≡ true → x ≡ y
same_bytes x y is = (bytes_eq-Decides x y).0 is

pub same_itself : (x : List ℕ) → bytes_eq x x ≡ true
same_itself x = (bytes_eq-Decides x x).1 refl

-- two texts are equal if neither is before the other
one_text_by : (x y : List ℕ) (o : Ordering) → slice_cmp nat_cmp x y ≡ o → is_lt o ≡ false
    → is_lt (ordering_reverse o) ≡ false → x ≡ y
one_text_by x y Less at h k = absurd (true≢false h)
one_text_by x y Equal at h k = same_bytes x y (sym (is_eq-slice_cmp x y) ∙ ap is_eq at)
one_text_by x y Greater at h k = absurd (true≢false k)

one_text : (x y : List ℕ) → is_before x y ≡ false → is_before y x ≡ false → x ≡ y
one_text x y h k = one_text_by x y (slice_cmp nat_cmp x y) refl h (sym (ap is_lt (nat_list_cmp_total.antisymm y x)) ∙ k)

-- no later text is before an earlier one
abbrev pub Ascends : List (List ℕ) → Type 0
Ascends [] = Unit {0}
Ascends (x ∷ xs) = AllByRecursion (λ y. is_before y x ≡ false) xs × Ascends xs

all_more : {P Q : List ℕ → Type 0} (xs : List (List ℕ)) → ((x : List ℕ) → P x → Q x) → AllByRecursion P xs
    → AllByRecursion Q xs
all_more [] more all = tt
all_more (x ∷ xs) more all = (more x all.0, all_more xs more all.1)

all_placed_by : (P : List ℕ → Type 0) (x y : List ℕ) (xs rest : List (List ℕ)) (b : Bool) → P x
    → AllByRecursion P (y ∷ xs) → AllByRecursion P rest → AllByRecursion P (cond b (y ∷ rest) (x ∷ y ∷ xs))
all_placed_by P x y xs rest true here all more = (all.0, more)
all_placed_by P x y xs rest false here all more = (here, all)

all_placed : (P : List ℕ → Type 0) (x : List ℕ) (xs : List (List ℕ)) → P x → AllByRecursion P xs
    → AllByRecursion P (placed x xs)
all_placed P x [] here all = (here, tt)
all_placed P x (y ∷ xs) here all =
    all_placed_by P x y xs (placed x xs) (is_before y x) here all (all_placed P x xs here all.1)

Ascends-placed_by : (x y : List ℕ) (xs : List (List ℕ)) (b : Bool) → is_before y x ≡ b → Ascends (y ∷ xs)
    → Ascends (placed x xs) → Ascends (cond b (y ∷ placed x xs) (x ∷ y ∷ xs))
Ascends-placed_by x y xs true at up rest =
    (all_placed (λ z. is_before z y ≡ false) x xs (order.one_way y x at) up.0, rest)
Ascends-placed_by x y xs false at up rest = ((at, all_more xs (λ z late. order.chain z y x late at) up.0), up)

Ascends-placed : (x : List ℕ) (xs : List (List ℕ)) → Ascends xs → Ascends (placed x xs)
Ascends-placed x [] up = (tt, tt)
Ascends-placed x (y ∷ xs) up = Ascends-placed_by x y xs (is_before y x) refl up (Ascends-placed x xs up.1)

Ascends-in_byte_order : (xs : List (List ℕ)) → Ascends (in_byte_order xs)
Ascends-in_byte_order [] = tt
Ascends-in_byte_order (x ∷ xs) = Ascends-placed x (in_byte_order xs) (Ascends-in_byte_order xs)

-- the number of occurrences of a text
abbrev times : List ℕ → List (List ℕ) → ℕ
times z [] = 0
times z (x ∷ xs) = cond (bytes_eq z x) 1 0 + times z xs

times-kept : (z : List ℕ) (p : List ℕ → Bool) (xs ys : List (List ℕ)) → IsPermutation xs ys
    → times z (filter p ys) ≡ times z (filter p xs)
times-kept z p xs ys moved =
    let f : List ℕ → ℕ = λ x. cond (p x) (cond (bytes_eq z x) 1 0) 0 in
    let is : (zs : List (List ℕ)) → times z (filter p zs) ≡ sum_by f zs =
    is_sum_by (λ zs. times z (filter p zs)) f refl (λ x zs. one_kept x (filter p zs) (p x)) in
    is ys ∙ sum_by-IsPermutation f xs ys moved ∙ sym (is xs)
  where
    one_kept : (x : List ℕ) (kept : List (List ℕ)) (b : Bool)
        → times z (cond b (x ∷ kept) kept) ≡ cond b (cond (bytes_eq z x) 1 0) 0 + times z kept
    one_kept x kept true = refl
    one_kept x kept false = omega arith

times-IsPermutation : (z : List ℕ) (xs ys : List (List ℕ)) → IsPermutation xs ys → times z ys ≡ times z xs
times-IsPermutation z xs ys moved =
    let f : List ℕ → ℕ = λ x. cond (bytes_eq z x) 1 0 in
    let is : (zs : List (List ℕ)) → times z zs ≡ sum_by f zs = is_sum_by (times z) f refl (λ _ _. refl) in
    is ys ∙ sum_by-IsPermutation f xs ys moved ∙ sym (is xs)

placed_by : (x y : List ℕ) (xs rest : List (List ℕ)) (b : Bool) → IsPermutation (x ∷ xs) rest
    → IsPermutation (x ∷ y ∷ xs) (cond b (y ∷ rest) (x ∷ y ∷ xs))
placed_by x y xs rest true moved =
    IsPermutation-trans _ _ _ (IsPermutation-middle (x ∷ []) y xs) (IsPermutation-cons y _ _ moved)
placed_by x y xs rest false moved = IsPermutation-refl _

placed-moves : (x : List ℕ) (xs : List (List ℕ)) → IsPermutation (x ∷ xs) (placed x xs)
placed-moves x [] = IsPermutation-refl _
placed-moves x (y ∷ xs) = placed_by x y xs (placed x xs) (is_before y x) (placed-moves x xs)

-- sorting in byte order is a permutation
pub in_byte_order-moves : (xs : List (List ℕ)) → IsPermutation xs (in_byte_order xs)
in_byte_order-moves [] = IsPermutation-refl _
in_byte_order-moves (x ∷ xs) =
    IsPermutation-trans _ _ _ (IsPermutation-cons x _ _ (in_byte_order-moves xs)) (placed-moves x (in_byte_order xs))

times-in_byte_order : (z : List ℕ) (xs : List (List ℕ)) → times z (in_byte_order xs) ≡ times z xs
times-in_byte_order z xs = times-IsPermutation z xs (in_byte_order xs) (in_byte_order-moves xs)

-- a property of all texts holds for one that occurs among them
held_by : (P : List ℕ → Type 0) (z x : List ℕ) (n : ℕ) (b : Bool) → bytes_eq z x ≡ b → P x → (0 < n → P z)
    → 0 < cond b 1 0 + n → P z
held_by P z x n true at here rest some = subst P (sym (same_bytes z x at)) here
held_by P z x n false at here rest some = rest (omega arith)

held : (P : List ℕ → Type 0) (z : List ℕ) (xs : List (List ℕ)) → AllByRecursion P xs → 0 < times z xs → P z
held P z [] all some = absurd (omega arith)
held P z (x ∷ xs) all some = held_by P z x (times z xs) (bytes_eq z x) refl all.0 (held P z xs all.1) some

times_itself : (z : List ℕ) (xs : List (List ℕ)) → 0 < times z (z ∷ xs)
times_itself z xs = rw (same_itself z) (omega arith)

rest_of : (a b c d : ℕ) → a + b ≡ c + d → a ≡ c → b ≡ d
rest_of a b c d h e = omega arith

-- ascending lists with the same texts are equal
one_list : (xs ys : List (List ℕ)) → Ascends xs → Ascends ys → ((z : List ℕ) → times z xs ≡ times z ys) → xs ≡ ys
one_list [] [] up also same = refl
one_list [] (y ∷ ys) up also same = absurd (let h = times_itself y ys in let e = same y in omega arith)
one_list (x ∷ xs) [] up also same = absurd (let h = times_itself x xs in let e = same x in omega arith)
one_list (x ∷ xs) (y ∷ ys) up also same =
    let late : is_before y x ≡ false = held (λ z. is_before z x ≡ false) y (x ∷ xs) (not_before_itself x, up.0)
    (subst (λ n. 0 < n) (sym (same y)) (times_itself y ys)) in
    let soon : is_before x y ≡ false = held (λ z. is_before z y ≡ false) x (y ∷ ys) (not_before_itself y, also.0)
    (subst (λ n. 0 < n) (same x) (times_itself x xs)) in
    let first : x ≡ y = one_text x y soon late in
    let rest : xs ≡ ys =
    one_list xs ys up.1 also.1 (λ z. rest_of _ _ _ _ (same z) (ap (λ w. cond (bytes_eq z w) 1 0) first)) in
    λ i. first i ∷ rest i

-- the sorted texts that pass a test do not depend on the original order
pub one_order : (p : List ℕ → Bool) (xs ys : List (List ℕ)) → IsPermutation xs ys
    → in_byte_order (filter p ys) ≡ in_byte_order (filter p xs)
one_order p xs ys moved =
    one_list (in_byte_order (filter p ys)) (in_byte_order (filter p xs))
    (Ascends-in_byte_order (filter p ys)) (Ascends-in_byte_order (filter p xs))
    (λ z. times-in_byte_order z (filter p ys) ∙ times-kept z p xs ys moved ∙ sym (times-in_byte_order z (filter p xs)))

all_at : {V : Type 0} (key : V → List ℕ) (P : List ℕ → Type 0) (d : V) (vs : List V)
    → ((k : ℕ) → k < length vs → P (key (get_or vs k d))) → AllByRecursion P (map key vs)
all_at key P d [] h = tt
all_at key P d (v ∷ vs) h = (h zero (omega arith), all_at key P d vs (λ k below. h (suc k) (omega arith)))

Ascends-far : {V : Type 0} (key : V → List ℕ) (vs : List V) → ((i j : ℕ) (d : V) → i ≤ j → j < length vs
    → is_before (key (get_or vs j d)) (key (get_or vs i d)) ≡ false) → Ascends (map key vs)
Ascends-far key [] far = tt
Ascends-far key (v ∷ vs) far = (
  all_at key (λ y. is_before y (key v) ≡ false) v vs (λ k below. far zero (suc k) v (omega arith) (omega arith)),
  Ascends-far key vs (λ i j d upto below. far (suc i) (suc j) d (omega arith) (omega arith)),
)

-- sorting by texts leaves the texts in byte order
pub sorted_texts : {V : Type 0} (key : V → List ℕ) (vs ws : List V) → IsPermutation vs ws
    → IsSortedBy (λ v w. is_before (key v) (key w)) ws → map key ws ≡ in_byte_order (map key vs)
sorted_texts key vs ws moved sorted =
    one_list (map key ws) (in_byte_order (map key vs))
    (Ascends-far key ws (sorted_far (λ v w. is_before (key v) (key w)) (ranks_by nat_list_cmp_total key) ws sorted))
    (Ascends-in_byte_order (map key vs))
    (λ z. times-IsPermutation z (map key vs) (map key ws) (IsPermutation-map key vs ws moved)
    ∙ sym (times-in_byte_order z (map key vs)))
