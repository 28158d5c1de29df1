-- The bound on starts: of eleven starts of an entry to which the respawn limit applies, the last is at least two
-- minutes after the first.
use Rattle.trace_laws.proofs.Words.{◌≡◌, ◌≤◌, ◌+◌, ◌-◌, refl, ℕ, Bool, true, false, not, ◌&&◌, ◌||◌, cond, nat_lt}
use Rattle.trace_laws.proofs.Words.{nat_le, List, [], ◌∷◌, ◌++◌, filter, length, drop, suc, zero, arith, le_trans}
use Rattle.trace_laws.proofs.Words.{list_all, and_parts, and_from, ltb-false, le-leb, leb-false, le-ltb, not-true, HOLD}
use Rattle.trace_laws.proofs.Words.{STARTS, WINDOW, Start, Asked, Goal, Event, time_of, start_times, hold_times}
use Rattle.trace_laws.proofs.Words.{is_held, is_full, is_sound, is_limited_id, is_spaced, obeys_respawn_limit, all_less}
use Rattle.trace_laws.proofs.Words.{all_fail}
use Rattle.trace_laws.proofs.Limits.{start_free}

-- a list of times in falling order, the first no later than a bound
abbrev pub Falling : ℕ → List ℕ → Type 0
Falling bound [] = Unit {0}
Falling bound (t ∷ ts) = (t ≤ bound) × Falling t ts

pub falls_below : (a b : ℕ) (ts : List ℕ) → a ≤ b → Falling a ts → Falling b ts
falls_below a b [] le falls = tt
falls_below a b (t ∷ ts) le falls = (le_trans falls.0 le, falls.1)

-- the start times of an id are in falling order
pub starts_fall : (id : List ℕ) (past : List Event) → Falling (time_of past) (start_times id past)
starts_fall id [] = tt
starts_fall id (happening ∷ past) = grind (arith, falls_below, starts_fall id past)

-- a time is young if its age is below two minutes
abbrev pub is_young : ℕ → ℕ → Bool
is_young now started = nat_lt (now - started) WINDOW

pub old_later : (now a b : ℕ) → b ≤ a → is_young now a ≡ false → is_young now b ≡ false
old_later now a b le old = le-ltb (now - b) WINDOW (omega (arith, ltb-false (now - a) WINDOW old))

all_old : (now a : ℕ) (ts : List ℕ) → is_young now a ≡ false → Falling a ts
    → list_all (λ t. not (is_young now t)) ts ≡ true
all_old now a [] old falls = refl
all_old now a (t ∷ ts) old falls = grind (arith, all_old now t ts)

all_drop : (p : ℕ → Bool) (k : ℕ) (ts : List ℕ) → list_all p ts ≡ true → list_all p (drop k ts) ≡ true
all_drop p zero ts h = h
all_drop p (suc k) [] h = refl
all_drop p (suc k) (t ∷ ts) h = all_drop p k ts (and_parts (p t) (list_all p ts) h).1

-- if at most `k` of a list of falling times are young, all after the first `k` are old
few_young : (now bound k : ℕ) (ts : List ℕ) → Falling bound ts → length (filter (is_young now) ts) ≤ k
    → list_all (λ t. not (is_young now t)) (drop k ts) ≡ true
few_young now bound zero [] falls few = refl
few_young now bound (suc k) [] falls few = refl
few_young now bound k (t ∷ ts) falls few = split (is_young now t) refl k few (λ j. few_young now t j ts falls.1) where
  split : (b : Bool) → is_young now t ≡ b → (k : ℕ) → length (cond b (t ∷ filter (is_young now) ts)
      (filter (is_young now) ts)) ≤ k → ((j : ℕ) → length (filter (is_young now) ts) ≤ j → list_all
      (λ u. not (is_young now u)) (drop j ts) ≡ true) → list_all (λ u. not (is_young now u)) (drop k (t ∷ ts)) ≡ true
  split b old k few rest = grind (arith, all_drop, all_old)

not_full : (n : ℕ) → nat_le STARTS n ≡ false → n ≤ 9
not_full n h = omega (arith, leb-false STARTS n h)

spaced : (now started : ℕ) → not (is_young now started) ≡ true → nat_le (started + WINDOW) now ≡ true
spaced now started h =
    le-leb (started + WINDOW) now (omega (arith, ltb-false (now - started) WINDOW (not-true (is_young now started) h)))

over : (now began : ℕ) → not (nat_lt now (began + HOLD)) ≡ true → nat_le (began + HOLD) now ≡ true
over now began h = le-leb (began + HOLD) now (ltb-false now (began + HOLD) (not-true (nat_lt now (began + HOLD)) h))

pub start_paced : (goal : Goal) (later : List Event) (id : List ℕ) (past : List Event)
    → is_sound goal (later ++ Asked id Start ∷ past) ≡ true → obeys_respawn_limit (Asked id Start) past ≡ true
start_paced goal later id past h = split (is_limited_id id past) (start_free goal later id past h) where
  split : (b : Bool) → (not b || not (is_held id past) && not (is_full id past)) ≡ true
      → (not b || is_spaced (time_of past) (start_times id past)
      && list_all (λ began. nat_le (began + HOLD) (time_of past)) (hold_times id past)) ≡ true
  split false free = refl
  split true free =
      let parts = and_parts (not (is_held id past)) (not (is_full id past)) free in
      let young : length (filter (is_young (time_of past)) (start_times id past)) ≤ 9 =
      not_full (length (filter (is_young (time_of past)) (start_times id past))) (not-true (is_full id past) parts.1) in
      and_from (is_spaced (time_of past) (start_times id past)) (list_all (λ began. nat_le (began + HOLD)
      (time_of past)) (hold_times id past)) (all_less (λ started. not (is_young (time_of past) started))
      (λ started. nat_le (started + WINDOW) (time_of past)) (spaced (time_of past)) (drop 9 (start_times id past))
      (few_young (time_of past) (time_of past) 9 (start_times id past) (starts_fall id past) young))
      (all_less (λ began. not (nat_lt (time_of past) (began + HOLD))) (λ began. nat_le (began + HOLD) (time_of past))
      (over (time_of past)) (hold_times id past) (all_fail (λ began. nat_lt (time_of past) (began + HOLD))
      (hold_times id past) (not-true (is_held id past) parts.0)))
