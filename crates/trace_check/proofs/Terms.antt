-- The earliest time of a TERM in a spell is all that the laws depend on.
use Rattle.trace_check.proofs.Words.{◌≡◌, ◌+◌, ◌-◌, refl, ◌∙◌, ap, ℕ, Bool, true, false, ◌&&◌, ◌||◌, cond, min, nat_le}
use Rattle.trace_check.proofs.Words.{List, [], ◌∷◌, ◌++◌, map, arith, Option, Some, None, list_any, option_map_or}
use Rattle.trace_check.proofs.Words.{nat_tests, OrderKind, Term, is_order, Signal, told_at, is_grace_over, or_false}
use Rattle.trace_check.proofs.Words.{earliest}
use Rattle.trace_check.proofs.Words.{least_term}

earliest_twice : (time : ℕ) (o : Option ℕ) → earliest time (Some (earliest time o)) ≡ earliest time o
earliest_twice time None = omega arith
earliest_twice time (Some other) = omega arith

-- the earliest TERM after these orders are told at this time
pub told_terms : (time : ℕ) (orders : List (Option OrderKind)) (signals : List Signal)
    → least_term (map (told_at time) orders ++ signals)
    ≡ cond (list_any (is_order Term) orders) (Some (earliest time (least_term signals))) (least_term signals)
told_terms time [] signals = refl
told_terms time (order ∷ orders) signals =
    split (is_order Term order) (list_any (is_order Term) orders) (told_terms time orders signals) where
      rest : Option ℕ
      rest = least_term (map (told_at time) orders ++ signals)

      split : (a b : Bool) → rest ≡ cond b (Some (earliest time (least_term signals))) (least_term signals) → cond a
          (Some (earliest time rest)) rest
          ≡ cond (a || b) (Some (earliest time (least_term signals))) (least_term signals)
      split true true is = ap (λ o. Some (earliest time o)) is ∙ ap Some (earliest_twice time (least_term signals))
      split true false is = ap (λ o. Some (earliest time o)) is
      split false b is = is

-- the grace period since this time is over
abbrev is_over : ℕ → ℕ → ℕ → Bool
is_over grace now time = nat_le (time + grace) now

over_either : (grace now a b : ℕ) → (is_over grace now a || is_over grace now b) ≡ is_over grace now (min a b)
over_either grace now a b = grind (arith, nat_tests)

pub over_age : (grace now time : ℕ) → (nat_le time now && nat_le grace (now - time)) ≡ nat_le (time + grace) now
over_age grace now time = grind (arith, nat_tests)

-- some TERM was told at least the grace period ago exactly if the earliest one was
pub ripe_least : (grace now : ℕ) (signals : List Signal)
    → list_any (is_grace_over grace now) signals ≡ option_map_or (is_over grace now) (least_term signals) false
ripe_least grace now [] = refl
ripe_least grace now (signal ∷ signals) =
    split (is_order Term signal.order) (least_term signals) (ripe_least grace now signals) where
      split : (a : Bool) (o : Option ℕ)
          → list_any (is_grace_over grace now) signals ≡ option_map_or (is_over grace now) o false
          → (a && is_over grace now signal.time || list_any (is_grace_over grace now) signals)
          ≡ option_map_or (is_over grace now) (cond a (Some (earliest signal.time o)) o) false
      split true None is = ap (λ b. is_over grace now signal.time || b) is ∙ or_false (is_over grace now signal.time)
      split true (Some other) is =
          ap (λ b. is_over grace now signal.time || b) is ∙ over_either grace now signal.time other
      split false o is = is
