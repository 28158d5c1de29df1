-- Times that do not decrease, one after another and by their positions.
use Rattle.core_model.proofs.Words.{◌≡◌, ◌≤◌, ◌<◌, ◌+◌, refl, sym, ℕ, Bool, zero, suc, true, false, List, [], ◌∷◌}
use Rattle.core_model.proofs.Words.{length, get_or, nat_le, arith, list_all, IsNonDecreasing, and_parts, and_from}
use Rattle.core_model.proofs.Words.{le-leb, is_non_decreasing}
use Rattle.std.specs.Bool.{MatchBool}

all_later : (time : ℕ) (times : List ℕ) → ((j d : ℕ) → j < length times → time ≤ get_or times j d)
    → list_all (λ later. nat_le time later) times ≡ true
all_later time [] later = refl
all_later time (next ∷ times) later =
    let first : time ≤ next = later zero next (omega arith) in
    and_from (nat_le time next) (list_all (λ l. nat_le time l) times) (le-leb time next first)
    (all_later time times (λ j d h. later (suc j) d (omega arith)))

later_at : (time : ℕ) (times : List ℕ) → list_all (λ later. nat_le time later) times ≡ true → (j d : ℕ)
    → j < length times → time ≤ get_or times j d
later_at time [] all j d h = grind arith
later_at time (next ∷ times) all j d h = grind (arith, later_at time times)

pub never_from_ordered : (times : List ℕ) → IsNonDecreasing times → is_non_decreasing times ≡ true
never_from_ordered [] ordered = refl
never_from_ordered (time ∷ times) ordered =
    and_from (list_all (λ l. nat_le time l) times) (is_non_decreasing times)
    (all_later time times (λ j d h. ordered zero (suc j) d (omega arith) (omega arith)))
    (never_from_ordered times (λ i j d le h. ordered (suc i) (suc j) d (omega arith) (omega arith)))

pub ordered_from_never : (times : List ℕ) → is_non_decreasing times ≡ true → IsNonDecreasing times
ordered_from_never [] never i j d le h = absurd (omega arith)
ordered_from_never (time ∷ times) never zero zero d le h = omega arith
ordered_from_never (time ∷ times) never zero (suc j) d le h =
    later_at time times (and_parts (list_all (λ l. nat_le time l) times) (is_non_decreasing times) never).0 j d
    (omega arith)
ordered_from_never (time ∷ times) never (suc i) zero d le h = absurd (omega arith)
ordered_from_never (time ∷ times) never (suc i) (suc j) d le h = ordered_from_never times
    (and_parts (list_all (λ l. nat_le time l) times) (is_non_decreasing times) never).1 i j d (omega arith)
    (omega arith)

-- the test whether the times are sorted is the test whether they never decrease
pub never_from_sorted : (times : List ℕ) (sorted : Bool) → MatchBool sorted (IsNonDecreasing times) ((k : ℕ)
    × (k + 1 < length times) × ((d : ℕ) → get_or times (k + 1) d < get_or times k d)) → sorted ≡ is_non_decreasing times
never_from_sorted times true ordered = sym (never_from_ordered times ordered)
never_from_sorted times false fall = at (is_non_decreasing times) refl
  where
    at : (never : Bool) → is_non_decreasing times ≡ never → false ≡ never
    at true is =
        let up : get_or times fall.0 0 ≤ get_or times (fall.0 + 1) 0 =
        ordered_from_never times is fall.0 (fall.0 + 1) 0 (omega arith) fall.1 in
        let down : get_or times (fall.0 + 1) 0 < get_or times fall.0 0 = fall.2 0 in
        absurd (omega arith)
    at false is = refl
