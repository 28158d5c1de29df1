-- The child of an id, when at most one child has the id.
use Rattle.trace_check.proofs.Words.{arith, ◌≡◌, refl, sym, subst, ℕ, Bool, true, false, cond, List, [], ◌∷◌, filter}
use Rattle.trace_check.proofs.Words.{find, Option, Some, None, list_any, option_map_or, none-some, Event, Child}
use Rattle.trace_check.proofs.Words.{is_child_of}
use Rattle.trace_check.proofs.Words.{unreaped_children, same_id-is, find_none, none_filtered, is_lone, child_of}

-- the element found passes the test
pub found_passes : {X : Type 0} (p : X → Bool) (xs : List X) (x : X) → find p xs ≡ Some x → p x ≡ true
found_passes p [] x h = absurd (none-some x h)
found_passes {X} p (y ∷ xs) x h = grind (arith, found_passes p xs x)

-- if the element found passes another test, some element does
pub found_test : {X : Type 0} (p q : X → Bool) (xs : List X) → option_map_or q (find p xs) false ≡ true
    → list_any q xs ≡ true
found_test p q [] h = h
found_test {X} p q (x ∷ xs) h = grind (arith, found_test p q xs)

-- what holds if there is no child, and for each child at its own id, holds for the child of an id
pub by_child : (P : List ℕ → Option Child → Type 0) → ((id : List ℕ) → P id None)
    → ((child : Child) → P child.id (Some child)) → (id : List ℕ) (past : List Event) → P id (child_of id past)
by_child P none some id past = split (child_of id past) refl where
  split : (o : Option Child) → child_of id past ≡ o → P id o
  split None is = none id
  split (Some child) is = subst (λ x. P x (Some child))
      (sym (same_id-is id child.id (found_passes (is_child_of id) (unreaped_children past) child is))) (some child)

-- the element found, if it passes the test
abbrev pub left_if : (Child → Bool) → Option Child → Option Child
left_if q None = None
left_if q (Some x) = cond (q x) (Some x) None

pub lone_left : (p q : Child → Bool) (xs : List Child) → is_lone p xs ≡ true
    → find p (filter q xs) ≡ left_if q (find p xs)
lone_left p q [] h = grind (arith, is_lone, find_none, none_filtered)
lone_left p q (x ∷ xs) h = grind (arith, lone_left p q xs, is_lone, find_none, none_filtered)
