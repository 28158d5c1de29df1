-- The last ten starts and the last hold are all that the respawn limit needs from the past, because the time never
-- decreases.
use Rattle.trace_check.proofs.Words.{◌≡◌, ◌≤◌, ◌+◌, ◌-◌, refl, sym, ◌∙◌, ap, ℕ, Bool, true, false, cond, max, min}
use Rattle.trace_check.proofs.Words.{nat_lt, nat_le, List, [], ◌∷◌, take, filter, length, slice_get, suc, zero, arith}
use Rattle.trace_check.proofs.Words.{le_refl, list_any, option_map_or, ltb-true, lt-ltb, or_left, nat_tests, HOLD}
use Rattle.trace_check.proofs.Words.{STARTS, WINDOW, CLOCK_LIMIT, same_id, NewTable, Enter, Hold, Clock, Event, time_of}
use Rattle.trace_check.proofs.Words.{start_times, hold_times, is_held, is_full, same_tests, or_either, newest}
use Rattle.trace_laws.proofs.Pace.{Falling, falls_below, starts_fall, is_young, old_later}

one_more : (b : Bool) (now : ℕ) (ts : List ℕ) → Falling now ts → Falling now (cond b (now ∷ ts) ts)
one_more true now ts falls = (le_refl now, falls)
one_more false now ts falls = falls

holds_fall : (id : List ℕ) (past : List Event) → Falling (time_of past) (hold_times id past)
holds_fall id [] = tt
holds_fall id (NewTable table ∷ past) = tt
holds_fall id (Enter stage grace ∷ past) = tt
holds_fall id (Hold i ∷ past) = one_more (same_id id i) (time_of past) (hold_times id past) (holds_fall id past)
holds_fall id (Clock reading ∷ past) = falls_below (time_of past) (max (min reading CLOCK_LIMIT) (time_of past))
    (hold_times id past) (omega arith) (holds_fall id past)
holds_fall id (_ ∷ past) = holds_fall id past

-- all times after an old one are old
none_young : (now a : ℕ) (ts : List ℕ) → is_young now a ≡ false → Falling a ts → filter (is_young now) ts ≡ []
none_young now a [] old falls = grind arith
none_young now a (t ∷ ts) old falls = grind (arith, none_young now t ts)

old_at : (now a n : ℕ) (ts : List ℕ) → is_young now a ≡ false → Falling a ts
    → option_map_or (is_young now) (slice_get ts n) false ≡ false
old_at now a n [] old falls = refl
old_at now a zero (t ∷ ts) old falls = old_later now a t falls.0 old
old_at now a (suc n) (t ∷ ts) old falls = old_at now t n ts (old_later now a t falls.0 old) falls.1

le_suc : (a b : ℕ) → nat_le (suc a) (suc b) ≡ nat_le a b
le_suc a b = grind (arith, nat_tests)

le_zero : (a : ℕ) → nat_le (suc a) 0 ≡ false
le_zero a = grind (arith, nat_tests)

le_one : (b : ℕ) → nat_le 1 (suc b) ≡ true
le_one b = grind (arith, nat_tests)

-- more than n of decreasing times are young exactly if the one at position n is
pub many_young : (now bound n : ℕ) (ts : List ℕ) → Falling bound ts
    → nat_le (suc n) (length (filter (is_young now) ts)) ≡ option_map_or (is_young now) (slice_get ts n) false
many_young now bound n [] falls = le_zero n
many_young now bound n (t ∷ ts) falls = split (is_young now t) refl n (λ m. many_young now t m ts falls.1) where
  split : (b : Bool) → is_young now t ≡ b → (k : ℕ) → ((m : ℕ) → nat_le (suc m) (length (filter (is_young now) ts))
      ≡ option_map_or (is_young now) (slice_get ts m) false) → nat_le (suc k) (length (cond b (t ∷ filter
      (is_young now) ts) (filter (is_young now) ts))) ≡ option_map_or (is_young now) (slice_get (t ∷ ts) k) false
  split true young zero rest = le_one (length (filter (is_young now) ts)) ∙ sym young
  split true young (suc k) rest = le_suc (suc k) (length (filter (is_young now) ts)) ∙ rest k
  split false old zero rest = ap (λ ys. nat_le 1 (length ys)) (none_young now t ts old falls.1) ∙ sym old
  split false old (suc k) rest = ap (λ ys. nat_le (suc (suc k)) (length ys)) (none_young now t ts old falls.1)
      ∙ le_zero (suc k) ∙ sym (old_at now t k ts old falls.1)

taken_at : {X : Type 0} (n : ℕ) (ts : List X) → slice_get (take (suc n) ts) n ≡ slice_get ts n
taken_at n [] = refl
taken_at zero (t ∷ ts) = refl
taken_at (suc n) (t ∷ ts) = taken_at n ts

-- the window is full exactly if the tenth-last start is young
pub full_by_last : (id : List ℕ) (past : List Event) → option_map_or (λ started. nat_lt (time_of past - started) WINDOW)
    (slice_get (take STARTS (start_times id past)) (STARTS - 1)) false ≡ is_full id past
full_by_last id past = ap (λ o. option_map_or (is_young (time_of past)) o false) (taken_at 9 (start_times id past))
    ∙ sym (many_young (time_of past) (time_of past) 9 (start_times id past) (starts_fall id past))

-- some hold is in force exactly if the last one is
in_force : (now began : ℕ) → nat_lt (now - began) HOLD ≡ nat_lt now (began + HOLD)
in_force now began = grind (arith, nat_tests)

later_holds : (now a b : ℕ) → b ≤ a → nat_lt now (b + HOLD) ≡ true → nat_lt now (a + HOLD) ≡ true
later_holds now a b le h = lt-ltb now (a + HOLD) (omega (arith, ltb-true now (b + HOLD) h))

first_holds : (now bound : ℕ) (ts : List ℕ) → Falling bound ts → list_any (λ began. nat_lt now (began + HOLD)) ts ≡ true
    → nat_lt now (bound + HOLD) ≡ true
first_holds now bound [] falls h = absurd (cc)
first_holds now bound (t ∷ ts) falls h = later_holds now bound t falls.0 (or_either (nat_lt now (t + HOLD))
    (list_any (λ began. nat_lt now (began + HOLD)) ts) h (λ here. here) (λ later. first_holds now t ts falls.1 later))

held_newest : (now bound : ℕ) (ts : List ℕ) → Falling bound ts → option_map_or (λ began. nat_lt (now - began) HOLD)
    (newest ts) false ≡ list_any (λ began. nat_lt now (began + HOLD)) ts
held_newest now bound ts falls = grind (arith, in_force, same_tests, or_left, or_either, first_holds)

pub held_by_last : (id : List ℕ) (past : List Event)
    → option_map_or (λ began. nat_lt (time_of past - began) HOLD) (newest (hold_times id past)) false ≡ is_held id past
held_by_last id past = held_newest (time_of past) (time_of past) (hold_times id past) (holds_fall id past)
