-- The pairs of two lists from a position on.
use Rattle.level_core.proofs.Words.{Bool, true, false, ◌&&◌, list_all, drop-nil, ◌≡◌, ℕ, zero, suc, ◌+◌, ◌<◌, ◌≤◌, List}
use Rattle.level_core.proofs.Words.{[], ◌∷◌, length, drop, get_or, zip, Some, None, refl, arith, add-one, slice_get}

module _ {A B : Type 0} where
  pub pair_at : (xs : List A) (ys : List B) (i : ℕ) (x : A) (y : B) → slice_get xs i ≡ Some x → i < length ys
      → y ≡ get_or ys i y → drop i (zip xs ys) ≡ (x, y) ∷ drop (i + 1) (zip xs ys)
  pair_at [] ys i x y at h is = cc
  pair_at (a ∷ xs) [] i x y at h is = absurd (omega arith)
  pair_at (a ∷ xs) (b ∷ ys) zero x y at h is = let first : a ≡ x = cc in rw (first, is) refl
  pair_at (a ∷ xs) (b ∷ ys) (suc i) x y at h is =
      rw (add-one (suc i)) (rw (add-one i) at (pair_at xs ys i x y at (omega arith) is))

  pub no_pair_at : (xs : List A) (ys : List B) (i : ℕ) → slice_get xs i ≡ None → drop i (zip xs ys) ≡ []
  no_pair_at [] ys i none = drop-nil i
  no_pair_at (a ∷ xs) [] i none = drop-nil i
  no_pair_at (a ∷ xs) (b ∷ ys) zero none = cc
  no_pair_at (a ∷ xs) (b ∷ ys) (suc i) none = no_pair_at xs ys i none

  pub no_pair_past : (xs : List A) (ys : List B) (i : ℕ) → length ys ≤ i → drop i (zip xs ys) ≡ []
  no_pair_past [] ys i past = drop-nil i
  no_pair_past (a ∷ xs) [] i past = drop-nil i
  no_pair_past (a ∷ xs) (b ∷ ys) zero past = absurd (omega arith)
  no_pair_past (a ∷ xs) (b ∷ ys) (suc i) past = no_pair_past xs ys i (omega arith)

  pub no_pair_got : (xs : List A) (ys : List B) (i : ℕ) → slice_get xs i ≡ None → slice_get (zip xs ys) i ≡ None
  no_pair_got [] ys i none = refl
  no_pair_got (a ∷ xs) [] i none = refl
  no_pair_got (a ∷ xs) (b ∷ ys) zero none = cc
  no_pair_got (a ∷ xs) (b ∷ ys) (suc i) none = no_pair_got xs ys i none

  pub no_pair_got_past : (xs : List A) (ys : List B) (i : ℕ) → length ys ≤ i → slice_get (zip xs ys) i ≡ None
  no_pair_got_past [] ys i past = refl
  no_pair_got_past (a ∷ xs) [] i past = refl
  no_pair_got_past (a ∷ xs) (b ∷ ys) zero past = absurd (omega arith)
  no_pair_got_past (a ∷ xs) (b ∷ ys) (suc i) past = no_pair_got_past xs ys i (omega arith)

  pub pair_got : (xs : List A) (ys : List B) (i : ℕ) (x : A) (y : B) → slice_get xs i ≡ Some x → i < length ys
      → y ≡ get_or ys i y → slice_get (zip xs ys) i ≡ Some (x, y)
  pair_got [] ys i x y at h is = cc
  pair_got (a ∷ xs) [] i x y at h is = absurd (omega arith)
  pair_got (a ∷ xs) (b ∷ ys) zero x y at h is = let first : a ≡ x = cc in rw (first, is) refl
  pair_got (a ∷ xs) (b ∷ ys) (suc i) x y at h is = pair_got xs ys i x y at (omega arith) is

-- if a test fails at a position, it does not hold for all
pub not_all : {X : Type 0} (p : X → Bool) (xs : List X) (i : ℕ) (x : X) → slice_get xs i ≡ Some x → p x ≡ false
    → list_all p xs ≡ false
not_all p [] i x at fails = absurd (cc)
not_all p (y ∷ ys) zero x at fails = let same : y ≡ x = cc in rw (same, fails) refl
not_all p (y ∷ ys) (suc i) x at fails = ends (p y) (not_all p ys i x at fails)
  where
    ends : (b : Bool) → list_all p ys ≡ false → (b && list_all p ys) ≡ false
    ends true h = h
    ends false h = refl
