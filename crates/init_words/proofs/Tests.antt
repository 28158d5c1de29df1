-- Lemmas about Boolean tests, and about lists that are searched and filtered by them.
use Rattle.std.proofs.Common.{◌≡◌, refl, sym, ◌∙◌, ap, inl, inr, Bool, true, false, not, ◌&&◌, ◌||◌, cond, List, []}
use Rattle.std.proofs.Common.{◌∷◌, filter, find, Option, Some, None, is_none, is_some, Result, Ok, Err}
use Rattle.std.specs.List.{list_any, list_all, AllByRecursion}
use Rattle.std.specs.Option.{option_map}
use Rattle.std.specs.Result.{IfErr}
use Rattle.std.proofs.lemmas.Bool.{false≢true, false_from_ne_true, and_parts, and_from, or_cases, or_left, or_right}
use Rattle.std.proofs.lemmas.Bool.{or_parts, or_from}
use Rattle.std.proofs.lemmas.List.Elements.{filter_agree}

-- anything follows from a test that both passes and fails
pub both_ways : {P : Type 0} (b : Bool) → b ≡ true → b ≡ false → P
both_ways b holds fails = absurd (false≢true (sym fails ∙ holds))

pub falsely : (a b : Bool) → (a ≡ true → b ≡ true) → b ≡ false → a ≡ false
falsely a b h fails = false_from_ne_true a (λ holds. both_ways b (h holds) fails)

-- two tests that imply each other are equal
pub same_tests : (a b : Bool) → (a ≡ true → b ≡ true) → (b ≡ true → a ≡ true) → a ≡ b
same_tests true b f g = sym (f refl)
same_tests false true f g = absurd (false≢true (g refl))
same_tests false false f g = refl

pub or_either : {P : Type 0} (a b : Bool) → (a || b) ≡ true → (a ≡ true → P) → (b ≡ true → P) → P
or_either a b h f g = elim (or_cases a b h) [ inl x ↦ f x | inr y ↦ g y ]

pub not_from : (b : Bool) → b ≡ false → not b ≡ true
not_from true h = sym h
not_from false h = refl

pub or_true : (b : Bool) → (b || true) ≡ true
or_true true = refl
or_true false = refl

pub and_true : (b : Bool) → (b && true) ≡ b
and_true true = refl
and_true false = refl

pub or_false : (b : Bool) → (b || false) ≡ b
or_false true = refl
or_false false = refl

pub and_false : (b : Bool) → (b && false) ≡ false
and_false true = refl
and_false false = refl

pub or_none : (a b : Bool) → b ≡ false → (a || b) ≡ a
or_none a b none = ap (λ c. a || c) none ∙ or_false a

pub and_three : (a b c : Bool) → (a && (b && c)) ≡ (a && b && c)
and_three true b c = refl
and_three false b c = refl

-- an option that is tested to be empty is `None`
pub is_none-is : {X : Type 0} (o : Option X) → is_none o ≡ true → o ≡ None
is_none-is None h = refl
is_none-is (Some x) h = absurd (false≢true h)

-- if some element passes a test, some element passes any weaker test
pub any_less : {X : Type 0} (p q : X → Bool) → ((x : X) → p x ≡ true → q x ≡ true) → (xs : List X)
    → list_any p xs ≡ true → list_any q xs ≡ true
any_less p q less [] h = h
any_less p q less (x ∷ xs) h = or_either (p x) (list_any p xs) h (λ here. or_left (q x) (list_any q xs) (less x here))
    (λ later. or_right (q x) (list_any q xs) (any_less p q less xs later))

pub any_same : {X : Type 0} (p q : X → Bool) → ((x : X) → p x ≡ q x) → (xs : List X) → list_any p xs ≡ list_any q xs
any_same p q same [] = refl
any_same p q same (x ∷ xs) = rw (same x, any_same p q same xs) refl

pub all_less : {X : Type 0} (p q : X → Bool) → ((x : X) → p x ≡ true → q x ≡ true) → (xs : List X)
    → list_all p xs ≡ true → list_all q xs ≡ true
all_less p q less [] h = refl
all_less p q less (x ∷ xs) h =
    let parts = and_parts (p x) (list_all p xs) h in
    and_from (q x) (list_all q xs) (less x parts.0) (all_less p q less xs parts.1)

-- if no element passes, all fail
pub all_fail : {X : Type 0} (p : X → Bool) (xs : List X) → list_any p xs ≡ false → list_all (λ x. not (p x)) xs ≡ true
all_fail p [] h = refl
all_fail p (x ∷ xs) h =
    let parts = or_parts (p x) (list_any p xs) h in
    and_from (not (p x)) (list_all (λ y. not (p y)) xs) (not_from (p x) parts.0) (all_fail p xs parts.1)

-- an element that passes; some element of the list passes every other test that it passes
pub record Passing {X : Type 0} (p : X → Bool) (xs : List X) : Type 0 where
  pub item : X
  pub passes : p item ≡ true
  pub within : (q : X → Bool) → q item ≡ true → list_any q xs ≡ true

pub passing : {X : Type 0} (p : X → Bool) (xs : List X) → list_any p xs ≡ true → Passing p xs
passing p [] h = absurd (false≢true h)
passing {X} p (x ∷ xs) h = or_either (p x) (list_any p xs) h here (λ more. later (passing p xs more)) where
  here : p x ≡ true → Passing p (x ∷ xs)
  here own = record { item = x; passes = own; within = λ q is. or_left (q x) (list_any q xs) is }

  later : Passing p xs → Passing p (x ∷ xs)
  later rest = record {
    item = rest.item;
    passes = rest.passes;
    within = λ q is. or_right (q x) (list_any q xs) (rest.within q is);
  }

-- what holds for all elements holds for all that pass a filter
pub all_filter : {X : Type 0} (P : X → Type 0) (p : X → Bool) (xs : List X) → AllByRecursion P xs
    → AllByRecursion P (filter p xs)
all_filter P p [] all = tt
all_filter {X} P p (x ∷ xs) all = by (p x) (all_filter P p xs all.1) where
  by : (b : Bool) → AllByRecursion P (filter p xs) → AllByRecursion P (cond b (x ∷ filter p xs) (filter p xs))
  by true rest = (all.0, rest)
  by false rest = rest

pub any_filter : {X : Type 0} (p q : X → Bool) (xs : List X) → list_any p (filter q xs) ≡ list_any (λ x. q x && p x) xs
any_filter p q [] = refl
any_filter {X} p q (x ∷ xs) = split (q x) (any_filter p q xs) where
  split : (b : Bool) → list_any p (filter q xs) ≡ list_any (λ y. q y && p y) xs
      → list_any p (cond b (x ∷ filter q xs) (filter q xs)) ≡ (b && p x || list_any (λ y. q y && p y) xs)
  split true same = ap (λ r. p x || r) same
  split false same = same

-- if every element that passes p passes q, filtering by q does not change whether some element passes p
pub any_within : {X : Type 0} (p q : X → Bool) → ((x : X) → p x ≡ true → q x ≡ true) → (xs : List X)
    → list_any p (filter q xs) ≡ list_any p xs
any_within p q kept xs = any_filter p q xs ∙ any_same (λ x. q x && p x) p
    (λ x. same_tests (q x && p x) (p x) (λ h. (and_parts (q x) (p x) h).1) (λ h. and_from (q x) (p x) (kept x h) h)) xs

-- if every element that passes p fails q, no element passes p after filtering by q
pub any_without : {X : Type 0} (p q : X → Bool) → ((x : X) → p x ≡ true → q x ≡ false) → (xs : List X)
    → list_any p (filter q xs) ≡ false
any_without p q gone xs = any_filter p q xs ∙ none xs where
  fails : (x : _) → (q x && p x) ≡ false
  fails x = false_from_ne_true (q x && p x)
      (λ h. both_ways (q x) (and_parts (q x) (p x) h).0 (gone x (and_parts (q x) (p x) h).1))

  none : (ys : List _) → list_any (λ x. q x && p x) ys ≡ false
  none [] = refl
  none (y ∷ ys) = or_from (q y && p y) (list_any (λ x. q x && p x) ys) (fails y) (none ys)

pub any_filtered : {X : Type 0} (p q : X → Bool) (xs : List X) → list_any p (filter q xs) ≡ true → list_any p xs ≡ true
any_filtered p q xs h =
    any_less (λ x. q x && p x) p (λ x both. (and_parts (q x) (p x) both).1) xs (sym (any_filter p q xs) ∙ h)

pub filter_both : {X : Type 0} (p q : X → Bool) (xs : List X) → filter p (filter q xs) ≡ filter (λ x. q x && p x) xs
filter_both p q [] = refl
filter_both {X} p q (x ∷ xs) = split (q x) (filter_both p q xs) where
  split : (b : Bool) → filter p (filter q xs) ≡ filter (λ y. q y && p y) xs → filter p (cond b (x ∷ filter q xs)
      (filter q xs)) ≡ cond (b && p x) (x ∷ filter (λ y. q y && p y) xs) (filter (λ y. q y && p y) xs)
  split true same = ap (λ ys. cond (p x) (x ∷ ys) ys) same
  split false same = same

pub filter_within : {X : Type 0} (p q : X → Bool) → ((x : X) → p x ≡ true → q x ≡ true) → (xs : List X)
    → filter p (filter q xs) ≡ filter p xs
filter_within p q kept xs = filter_both p q xs ∙ filter_agree (λ x. q x && p x) p
    (λ x. same_tests (q x && p x) (p x) (λ h. (and_parts (q x) (p x) h).1) (λ h. and_from (q x) (p x) (kept x h) h)) xs

pub filter_none : {X : Type 0} (p : X → Bool) (xs : List X) → list_any p xs ≡ false → filter p xs ≡ []
filter_none p [] h = refl
filter_none p (x ∷ xs) h =
    let parts = or_parts (p x) (list_any p xs) h in
    rw parts.0 (filter_none p xs parts.1)

pub filter_without : {X : Type 0} (p q : X → Bool) → ((x : X) → p x ≡ true → q x ≡ false) → (xs : List X)
    → filter p (filter q xs) ≡ []
filter_without p q gone xs = filter_none p (filter q xs) (any_without p q gone xs)

pub any_none : {X : Type 0} (p : X → Bool) (xs : List X) → filter p xs ≡ [] → list_any p xs ≡ false
any_none p xs h = sym (any_within p p (λ x own. own) xs) ∙ ap (list_any p) h

-- if no element passes, `find` finds none
pub find_none : {X : Type 0} (p : X → Bool) (xs : List X) → list_any p xs ≡ false → find p xs ≡ None
find_none p [] h = refl
find_none p (x ∷ xs) h =
    let parts = or_parts (p x) (list_any p xs) h in
    rw parts.0 (find_none p xs parts.1)

-- `find` finds an element exactly if some element passes
pub found_any : {X Y : Type 0} (f : X → Y) (p : X → Bool) (xs : List X)
    → is_some (option_map f (find p xs)) ≡ list_any p xs
found_any f p [] = refl
found_any {X} f p (x ∷ xs) = split (p x) (found_any f p xs) where
  split : (b : Bool) → is_some (option_map f (find p xs)) ≡ list_any p xs
      → is_some (option_map f (cond b (Some x) (find p xs))) ≡ (b || list_any p xs)
  split true rest = refl
  split false rest = rest

-- `find` finds no element exactly if none passes
pub none_found : {X Y : Type 0} (f : X → Y) (p : X → Bool) (xs : List X)
    → is_none (option_map f (find p xs)) ≡ not (list_any p xs)
none_found f p [] = refl
none_found {X} f p (x ∷ xs) = split (p x) (none_found f p xs) where
  split : (b : Bool) → is_none (option_map f (find p xs)) ≡ not (list_any p xs)
      → is_none (option_map f (cond b (Some x) (find p xs))) ≡ not (b || list_any p xs)
  split true rest = refl
  split false rest = rest

-- what holds for an error holds for the error of a result that is known to be it
pub err_is : {S E : Type 0} (r : Result S E) (e : E) (Q : E → Type 0) → r ≡ Err e → Q e → IfErr r Q
err_is (Ok x) e Q is h = absurd (cc)
err_is (Err x) e Q is h = let same : x ≡ e = cc in rw same h
