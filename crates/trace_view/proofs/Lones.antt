-- An id has at most one child in a list.
use Rattle.trace_view.proofs.Words.{◌≡◌, refl, arith, ℕ, Bool, true, false, not, List, [], ◌∷◌, ◌++◌, find, Some, None}
use Rattle.trace_view.proofs.Words.{list_any, Child, is_child_of, is_child}
use Rattle.std.specs.Prelude.{filter}
use Rattle.trace_laws.proofs.Lone.{is_lone}
use Rattle.trace_view.specs.ChildLists.{with_child, without}

none_go : (p q : Child → Bool) (xs : List Child) → ((c : Child) → q c ≡ true → p c ≡ true) → list_any p xs ≡ false
    → filter (λ c. not (q c)) xs ≡ xs
none_go p q [] less none = refl
none_go p q (x ∷ xs) less none = grind (arith, none_go p q xs less, less x)

none_stay : (p : Child → Bool) (xs : List Child) → list_any p xs ≡ false → filter p xs ≡ []
none_stay p [] none = refl
none_stay p (x ∷ xs) none = grind (arith, none_stay p xs)

pub lone_without : (id : List ℕ) (number : ℕ) (xs : List Child) → is_lone (is_child_of id) xs ≡ true
    → without id number xs ≡ filter (λ (child : Child). not (is_child id number child)) xs
lone_without id number [] lone = refl
lone_without id number (x ∷ xs) lone = grind (
  arith,
  lone_without id number xs,
  none_go (is_child_of id) (is_child_of id) xs (λ c is. is),
  none_go (is_child_of id) (is_child id number) xs (λ c is. grind arith),
)

pub lone_first : (id : List ℕ) (xs ys : List Child) → is_lone (is_child_of id) xs ≡ true
    → with_child (find (is_child_of id) xs) ys ≡ filter (is_child_of id) xs ++ ys
lone_first id [] ys lone = refl
lone_first id (x ∷ xs) ys lone = grind (arith, lone_first id xs ys, none_stay (is_child_of id) xs)
