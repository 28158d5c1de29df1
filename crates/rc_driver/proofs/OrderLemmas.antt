-- Sorting borrowed names and removing duplicates, compared with the same for their texts.
use Rattle.rc_driver.proofs.LinkWords.{◌≡◌, ℕ, Bool, true, false, cond, List, [], ◌∷◌, map, refl, ap, dedup, dedup_from}
use Rattle.rc_driver.proofs.LinkWords.{bytes_eq}

by_same : {V : Type 0} (key : V → List ℕ) (same : Bool) (first : V) (xs ys : List V) (us ws : List (List ℕ))
    → map key xs ≡ us → map key ys ≡ ws → map key (cond same xs (first ∷ ys)) ≡ cond same us (key first ∷ ws)
by_same key true first xs ys us ws remaining right = remaining
by_same key false first xs ys us ws remaining right = ap (λ rest. key first ∷ rest) right

map-dedup_from : {V : Type 0} (key : V → List ℕ) (first : V) (vs : List V)
    → map key (dedup_from (λ v w. bytes_eq (key v) (key w)) first vs) ≡ dedup_from bytes_eq (key first) (map key vs)
map-dedup_from key first [] = refl
map-dedup_from key first (v ∷ vs) =
    by_same key (bytes_eq (key v) (key first)) first _ _ _ _ (map-dedup_from key first vs) (map-dedup_from key v vs)

-- the keys of a list without duplicates
pub map-dedup : {V : Type 0} (key : V → List ℕ) (vs : List V)
    → map key (dedup (λ v w. bytes_eq (key v) (key w)) vs) ≡ dedup bytes_eq (map key vs)
map-dedup key [] = refl
map-dedup key (v ∷ vs) = map-dedup_from key v vs
