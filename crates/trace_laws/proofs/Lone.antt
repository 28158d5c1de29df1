-- Lists of children of which at most one passes a test.
use Rattle.trace_laws.proofs.Words.{◌≡◌, ◌≤◌, arith, length, refl, Bool, true, false, not, ◌&&◌, cond, List, [], ◌∷◌}
use Rattle.trace_laws.proofs.Words.{filter, find, list_any, option_map_or, not-true, nil_from_length, Child, falsely}
use Rattle.trace_laws.proofs.Words.{any_less, any_filtered, any_none, or_none}

-- if none passes, none of a sublist passes
pub none_filtered : (p q : Child → Bool) (xs : List Child) → not (list_any p xs) ≡ true
    → list_any p (filter q xs) ≡ false
none_filtered p q xs none =
    falsely (list_any p (filter q xs)) (list_any p xs) (any_filtered p q xs) (not-true (list_any p xs) none)

-- at most one passes
abbrev pub is_lone : (Child → Bool) → List Child → Bool
is_lone p [] = true
is_lone p (x ∷ xs) = cond (p x) (not (list_any p xs)) (is_lone p xs)

lone_none : (p : Child → Bool) (xs : List Child) → list_any p xs ≡ false → is_lone p xs ≡ true
lone_none p [] h = refl
lone_none p (x ∷ xs) h = grind (arith, lone_none p xs)

-- at most one of a sublist passes
pub lone_filter : (p q : Child → Bool) (xs : List Child) → is_lone p xs ≡ true → is_lone p (filter q xs) ≡ true
lone_filter p q [] h = refl
lone_filter p q (x ∷ xs) h = grind (arith, none_filtered, lone_none, lone_filter p q xs)

-- whether the only child that passes `p` also passes `q`, from the child that `find` returns
pub lone_any : (p q : Child → Bool) (xs : List Child) → is_lone p xs ≡ true
    → list_any (λ x. p x && q x) xs ≡ option_map_or q (find p xs) false
lone_any p q [] h = refl
lone_any p q (x ∷ xs) h = grind (arith, or_none, any_less, lone_any p q xs)

-- if at most one child passes, and this one does, no other does
pub only_one : (p : Child → Bool) (x : Child) (xs : List Child) → length (x ∷ filter p xs) ≤ 1 → list_any p xs ≡ false
only_one p x xs few = any_none p xs (nil_from_length (filter p xs) (omega arith))
