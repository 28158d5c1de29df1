-- Sorted items: inserting and removing one, and finding those with a key by binary search.
use Rattle.child_table.proofs.Words.{◌≡◌, refl, Bool, true, false, not, ℕ, zero, suc, ◌≤◌, ◌<◌, List, [], ◌∷◌, filter}
use Rattle.child_table.proofs.Words.{length, nat_lt, arith, list_any, insert, slice_index_or, and_parts, and_from}
use Rattle.child_table.proofs.Words.{or_parts, or_from, not-true, not_from_false, ltb-true, ltb-false, lt-ltb, le-ltb}
use Rattle.child_table.proofs.Words.{Keyed, are_sorted, sym, ◌∙◌, ap, subst, cond, ◌&&◌, ◌+◌, drop, slice_get, Option}
use Rattle.child_table.proofs.Words.{Some, ◌==◌, get_or, add-one, length-drop, count_by, AllWithin, eqb-true}
use Rattle.child_table.proofs.Words.{eq-eqb, sum_by-cons, get_or-drop, same_id, same_id-self, is_at, IsFound}
use Rattle.std.specs.List.Sorted.{IsPartitionedBy, IsPartitionPoint}
use Rattle.std.proofs.lemmas.Bool.{both_ways}
use Rattle.std.proofs.lemmas.Option.{slice_get-get_or}
use Rattle.child_table.specs.declared.index.Found.TheVariants as found

abbrev pub is_below : ℕ → Keyed → Bool
is_below n c = nat_lt c.key n

any_filter : (p q : Keyed → Bool) (cs : List Keyed) → list_any p cs ≡ false → list_any p (filter q cs) ≡ false
any_filter p q [] none = refl
any_filter p q (c ∷ cs) none = grind (arith, any_filter p q cs)

pub sorted_filter : (q : Keyed → Bool) (cs : List Keyed) → are_sorted cs ≡ true → are_sorted (filter q cs) ≡ true
sorted_filter q [] sorted = refl
sorted_filter q (c ∷ cs) sorted = grind (arith, any_filter, sorted_filter q cs)

-- if no item of a list passes a test, the item at a position does not
pub none_at : (p : Keyed → Bool) (cs : List Keyed) (j : ℕ) (d : Keyed) → list_any p cs ≡ false → j < length cs
    → p (slice_index_or cs j d) ≡ false
none_at p [] j d none within = absurd (omega arith)
none_at p (c ∷ cs) zero d none within = (or_parts (p c) (list_any p cs) none).0
none_at p (c ∷ cs) (suc j) d none within = none_at p cs j d (or_parts (p c) (list_any p cs) none).1 (omega arith)

pub sorted_parts : (n : ℕ) (cs : List Keyed) → are_sorted cs ≡ true → IsPartitionedBy (is_below n) cs
sorted_parts n [] sorted i j d le within h = absurd (omega arith)
sorted_parts n (c ∷ cs) sorted zero zero d le within h = h
sorted_parts n (c ∷ cs) sorted zero (suc j) d le within h = grind (arith, ltb-false, none_at, ltb-true, lt-ltb)
sorted_parts n (c ∷ cs) sorted (suc i) zero d le within h = absurd (omega arith)
sorted_parts n (c ∷ cs) sorted (suc i) (suc j) d le within h = sorted_parts n cs
    (and_parts (not (list_any (is_below c.key) cs)) (are_sorted cs) sorted).1 i j d (omega arith) (omega arith) h

none_from : (p : Keyed → Bool) (cs : List Keyed)
    → ((j : ℕ) (d : Keyed) → j < length cs → p (slice_index_or cs j d) ≡ false) → list_any p cs ≡ false
none_from p [] each = refl
none_from p (c ∷ cs) each =
    or_from (p c) (list_any p cs) (each 0 c (omega arith)) (none_from p cs (λ j d h. each (suc j) d (omega arith)))

any_insert : (p : Keyed → Bool) (cs : List Keyed) (i : ℕ) (c : Keyed) → list_any p cs ≡ false → p c ≡ false
    → list_any p (insert cs i c) ≡ false
any_insert p [] zero c none h = or_from (p c) false h refl
any_insert p [] (suc i) c none h = or_from (p c) false h refl
any_insert p (e ∷ cs) zero c none h = or_from (p c) (list_any p (e ∷ cs)) h none
any_insert p (e ∷ cs) (suc i) c none h = grind (arith, any_insert p cs i c)

-- an item may be inserted where the items with smaller keys end, or after those with its own key
pub sorted_insert : (n : ℕ) (cs : List Keyed) (i : ℕ) (c : Keyed) → c.key ≤ n → n ≤ c.key + 1 → i ≤ length cs
    → are_sorted cs ≡ true
    → IsPartitionPoint (λ (d : Keyed). is_below n d ≡ true) (λ (d : Keyed). is_below n d ≡ false) cs i
    → are_sorted (insert cs i c) ≡ true
sorted_insert n [] zero c least most within sorted parted = refl
sorted_insert n [] (suc i) c least most within sorted parted = absurd (omega arith)
sorted_insert n (e ∷ cs) zero c least most within sorted parted =
    and_from (not (list_any (is_below c.key) (e ∷ cs))) (are_sorted (e ∷ cs))
    (not_from_false (list_any (is_below c.key) (e ∷ cs)) (none_from (is_below c.key) (e ∷ cs) (λ j d h.
    let high = ltb-false (slice_index_or (e ∷ cs) j d).key n (parted.1 j d (omega arith) h) in
    le-ltb (slice_index_or (e ∷ cs) j d).key c.key (omega arith)))) sorted
sorted_insert n (e ∷ cs) (suc i) c least most within sorted parted =
    let parts = and_parts (not (list_any (is_below e.key) cs)) (are_sorted cs) sorted in
    let less = ltb-true e.key n (parted.0 0 e (omega arith) (omega arith)) in
    let later = sorted_insert n cs i c least most (omega arith) parts.1 (
      λ j d low high. parted.0 (suc j) d (omega arith) (omega arith),
      λ j d low high. parted.1 (suc j) d (omega arith) (omega arith),
    ) in
    and_from (not (list_any (is_below e.key) (insert cs i c))) (are_sorted (insert cs i c))
    (not_from_false (list_any (is_below e.key) (insert cs i c)) (any_insert (is_below e.key) cs i c
    (not-true (list_any (is_below e.key) cs) parts.0) (le-ltb c.key e.key (omega arith)))) later

sorted_drop : (cs : List Keyed) (i : ℕ) → are_sorted cs ≡ true → are_sorted (drop i cs) ≡ true
sorted_drop cs zero sorted = sorted
sorted_drop [] (suc i) sorted = refl
sorted_drop (c ∷ cs) (suc i) sorted =
    sorted_drop cs i (and_parts (not (list_any (is_below c.key) cs)) (are_sorted cs) sorted).1

drop_some : (cs : List Keyed) (i : ℕ) (c : Keyed) → slice_get cs i ≡ Some c → drop i cs ≡ c ∷ drop (suc i) cs
drop_some [] i c is = absurd (cc)
drop_some (e ∷ cs) zero c is = let same : e ≡ c = cc in rw same refl
drop_some (e ∷ cs) (suc i) c is = drop_some cs i c is

differ : (m n : ℕ) → (m ≡ n → ⊥) → (m == n) ≡ false
differ m n h = at (m == n) refl
  where
    at : (b : Bool) → (m == n) ≡ b → b ≡ false
    at true is = absurd (h (eqb-true m n is))
    at false is = refl

strict : (m n : ℕ) → n ≤ m → (m ≡ n → ⊥) → n < m
strict m n least other = at (nat_lt n m) refl
  where
    at : (b : Bool) → nat_lt n m ≡ b → n < m
    at true is = ltb-true n m is
    at false is = let most = ltb-false n m is in absurd (other (omega arith))

get_drop : (cs : List Keyed) (i : ℕ) → slice_get (drop i cs) 0 ≡ slice_get cs i
get_drop cs zero = refl
get_drop [] (suc i) = refl
get_drop (c ∷ cs) (suc i) = get_drop cs i

pub at_within : (n : ℕ) (cs : List Keyed) (i : ℕ) → is_at n (slice_get cs i) ≡ true → i < length cs
at_within n [] i is = absurd (cc)
at_within n (c ∷ cs) zero is = omega arith
at_within n (c ∷ cs) (suc i) is = let within = at_within n cs i is in omega arith

-- a test that only items with one key pass, on sorted items
module _ (n : ℕ) (test : Keyed → Bool) (own : (c : Keyed) → (c.key == n) ≡ false → test c ≡ false) where
  one : (c : Keyed) (cs : List Keyed) → count_by test (c ∷ cs) ≡ cond (test c) 1 0 + count_by test cs
  one c cs = sum_by-cons (λ (d : Keyed). cond (test d) 1 0) c cs

  passed : (c : Keyed) (cs : List Keyed) → (c.key ≡ n → ⊥) → count_by test (c ∷ cs) ≡ count_by test cs
  passed c cs h = one c cs ∙ ap (λ (b : Bool). cond b 1 0 + count_by test cs) (own c (differ c.key n h)) ∙ omega arith

  below : (cs : List Keyed) (i : ℕ) → i ≤ length cs → AllWithin (λ (d : Keyed). is_below n d ≡ true) cs 0 i
      → count_by test cs ≡ count_by test (drop i cs)
  below cs zero within all = refl
  below [] (suc i) within all = refl
  below (c ∷ cs) (suc i) within all =
      let less = ltb-true c.key n (all 0 c (omega arith) (omega arith)) in
      passed c cs (λ same. absurd (omega arith))
      ∙ below cs i (omega arith) (λ j d low high. all (suc j) d (omega arith) (omega arith))

  above : (m : ℕ) (cs : List Keyed) → n < m → list_any (is_below m) cs ≡ false → count_by test cs ≡ 0
  above m [] more none = refl
  above m (c ∷ cs) more none =
      let parts = or_parts (is_below m c) (list_any (is_below m) cs) none in
      let least = ltb-false c.key m parts.0 in
      passed c cs (λ same. absurd (omega arith)) ∙ above m cs more parts.1

  -- the items from the first one on whose key is not smaller
  rest_none : (rest : List Keyed) → are_sorted rest ≡ true → ((j : ℕ) (d : Keyed) → j < length rest
      → is_below n (slice_index_or rest j d) ≡ false) → is_at n (slice_get rest 0) ≡ false → count_by test rest ≡ 0
  rest_none [] sorted from none = refl
  rest_none (c ∷ cs) sorted from none =
      let least = ltb-false c.key n (from 0 c (omega arith)) in
      let parts = and_parts (not (list_any (is_below c.key) cs)) (are_sorted cs) sorted in
      let other : c.key ≡ n → ⊥ = λ same. both_ways (c.key == n) none (eq-eqb c.key n same) in
      let more : n < c.key = strict c.key n least other in
      passed c cs other ∙ above c.key cs more (not-true (list_any (is_below c.key) cs) parts.0)

  rest_one : (c : Keyed) (cs : List Keyed) → are_sorted (c ∷ cs) ≡ true → c.key ≡ n → is_at n (slice_get cs 0) ≡ false
      → count_by test (c ∷ cs) ≡ cond (test c) 1 0
  rest_one c cs sorted same none =
      let parts = and_parts (not (list_any (is_below c.key) cs)) (are_sorted cs) sorted in
      let least = not-true (list_any (is_below c.key) cs) parts.0 in
      one c cs ∙ ap (λ k. cond (test c) 1 0 + k) (rest_none cs parts.1 (λ j d h. subst (λ m. is_below m
      (slice_index_or cs j d) ≡ false) same (none_at (is_below c.key) cs j d least h)) none) ∙ omega arith

  pub none_with : (cs : List Keyed) (i : ℕ) → i ≤ length cs → are_sorted cs ≡ true
      → IsPartitionPoint (λ (d : Keyed). is_below n d ≡ true) (λ (d : Keyed). is_below n d ≡ false) cs i
      → is_at n (slice_get cs i) ≡ false → count_by test cs ≡ 0
  none_with cs i within sorted first none =
      let size = length-drop i cs in
      below cs i within first.0 ∙ rest_none (drop i cs) (sorted_drop cs i sorted) (λ j d h. subst (λ c. is_below n c
      ≡ false) (sym (get_or-drop i cs j d)) (first.1 (i + j) d (omega arith) (omega arith))) (rw (get_drop cs i) none)

  pub one_with : (cs : List Keyed) (i : ℕ) → i ≤ length cs → are_sorted cs ≡ true
      → IsPartitionPoint (λ (d : Keyed). is_below n d ≡ true) (λ (d : Keyed). is_below n d ≡ false) cs i
      → (c : Keyed) → slice_get cs i ≡ Some c → c.key ≡ n → is_at n (slice_get cs (i + 1)) ≡ false
      → count_by test cs ≡ cond (test c) 1 0
  one_with cs i within sorted first c is same none =
      let rest = drop_some cs i c is in
      below cs i within first.0 ∙ ap (count_by test) rest ∙ rest_one c (drop (suc i) cs) (subst (λ (xs : List Keyed).
      are_sorted xs ≡ true) rest (sorted_drop cs i sorted)) same (rw (get_drop cs (suc i)) (rw (add-one i) at none))

-- what a search for a key finds
pub found_none : (n : ℕ) (cs : List Keyed) (i : ℕ) → i ≤ length cs → are_sorted cs ≡ true
    → IsPartitionPoint (λ (d : Keyed). is_below n d ≡ true) (λ (d : Keyed). is_below n d ≡ false) cs i
    → is_at n (slice_get cs i) ≡ false → IsFound n cs found.None
found_none n cs i within sorted first none = none_with n (λ c. c.key == n) (λ c h. h) cs i within sorted first none

pub found_one : (n : ℕ) (cs : List Keyed) (i : ℕ) → i ≤ length cs → are_sorted cs ≡ true
    → IsPartitionPoint (λ (d : Keyed). is_below n d ≡ true) (λ (d : Keyed). is_below n d ≡ false) cs i
    → is_at n (slice_get cs i) ≡ true → is_at n (slice_get cs (i + 1)) ≡ false → (c : Keyed) → c ≡ get_or cs i c
    → IsFound n cs (found.One c.id)
found_one n cs i within sorted first here none c is =
    let at : slice_get cs i ≡ Some c = slice_get-get_or cs i c (at_within n cs i here) ∙ ap Some (sym is) in
    let same : (c.key == n) ≡ true = subst (λ (o : Option Keyed). is_at n o ≡ true) at here in (
      one_with n (λ d. d.key == n) (λ d h. h) cs i within sorted first c at (eqb-true c.key n same) none
          ∙ ap (λ (b : Bool). cond b 1 0) same,
      one_with n (λ d. d.key == n && same_id c.id d.id)
          (λ d h. ap (λ b. b && same_id c.id d.id) h) cs i within sorted first c at (eqb-true c.key n same) none
          ∙ ap (λ (b : Bool). cond (b && same_id c.id c.id) 1 0) same
          ∙ ap (λ (b : Bool). cond b 1 0) (same_id-self c.id),
    )
