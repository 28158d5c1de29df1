-- The starts and the hold of the limiter give the same window as the past.
use Rattle.core_model.proofs.Words.{Bool, true, false, not, ◌≡◌, ◌≤◌, ◌+◌, ◌&&◌, ◌||◌, ℕ, List, [], ◌∷◌, reverse}
use Rattle.core_model.proofs.Words.{filter, length, max, min, nat_le, nat_lt, refl, sym, ap, ◌∙◌, arith, cond, All}
use Rattle.core_model.proofs.Words.{list_any, list_all, IsNonDecreasing, and_parts, and_from, leb-true, le-leb}
use Rattle.core_model.proofs.Words.{reverse_onto, All-push, filter-append, length-filter, HOLD, STARTS, CLOCK_LIMIT}
use Rattle.core_model.proofs.Words.{Start, same_id, LimiterState, is_full-last_starts, IsNonDecreasing-push, NewTable}
use Rattle.core_model.proofs.Words.{Asked, Clock, Event, time_of, start_times, hold_times, allows, last_hold_end}
use Rattle.std.proofs.lemmas.List.{length-append}
use Rattle.respawn_limit.specs.Window as window
use Rattle.trace_events.specs.declared.happenings.Happening.TheVariants.{Enter, Hold}
use Rattle.trace_events.specs.Timing.{is_held, is_full}

-- ordered times, none of which is later than now
pub record Noted (now : ℕ) (times : List ℕ) : Type 0 where
  pub ordered : IsNonDecreasing times
  pub past : All (λ t. t ≤ now) times

later : (now next : ℕ) (times : List ℕ) → now ≤ next → Noted now times → Noted next times
later now next times h noted =
    record { ordered = noted.ordered; past = λ k d within. let before : _ ≤ now = noted.past k d within in omega arith }

noted_more : (now : ℕ) (times : List ℕ) → Noted now (reverse times) → Noted now (reverse (now ∷ times))
noted_more now times noted = rw (reverse_onto times now []) (record {
  ordered = IsNonDecreasing-push (reverse times) now noted.ordered noted.past;
  past = All-push (λ t. t ≤ now) (reverse times) now noted.past (omega arith);
})

-- the starts of an id, oldest first, are ordered
pub starts_noted : (id : List ℕ) (past : List Event) → Noted (time_of past) (reverse (start_times id past))
starts_noted id [] = record { ordered = λ i j d h k. absurd (omega arith); past = λ k d h. absurd (omega arith) }
starts_noted id (NewTable table ∷ past) =
    record { ordered = λ i j d h k. absurd (omega arith); past = λ k d h. absurd (omega arith) }
starts_noted id (Enter stage grace ∷ past) =
    record { ordered = λ i j d h k. absurd (omega arith); past = λ k d h. absurd (omega arith) }
starts_noted id (Asked i Start ∷ past) = at (same_id id i) (starts_noted id past)
  where
    at : (b : Bool) → Noted (time_of past) (reverse (start_times id past))
        → Noted (time_of past) (reverse (cond b (time_of past ∷ start_times id past) (start_times id past)))
    at true noted = noted_more (time_of past) (start_times id past) noted
    at false noted = noted
starts_noted id (Clock reading ∷ past) = later (time_of past) (max (min reading CLOCK_LIMIT) (time_of past))
    (reverse (start_times id past)) (omega arith) (starts_noted id past)
starts_noted id (_ ∷ past) = starts_noted id past

length-filter-reverse : (p : ℕ → Bool) (xs : List ℕ) → length (filter p (reverse xs)) ≡ length (filter p xs)
length-filter-reverse p [] = grind (arith, reverse_onto, filter-append, length-append)
length-filter-reverse p (x ∷ xs) = grind (arith, length-filter-reverse p xs, reverse_onto, filter-append, length-append)

-- the window is full by the starts that are kept exactly if it is full by the past
pub full_fits : (id : List ℕ) (past : List Event)
    → window.is_full (window.last_starts (reverse (start_times id past))) (time_of past) ≡ is_full id past
full_fits id past = is_full-last_starts (reverse (start_times id past)) (time_of past) (starts_noted id past).ordered
    ∙ ap (λ n. nat_le STARTS n) (sym (length-filter (window.is_recent (time_of past)) (reverse (start_times id past)))
    ∙ length-filter-reverse (window.is_recent (time_of past)) (start_times id past))

-- no hold began after now
pub holds_past : (id : List ℕ) (past : List Event)
    → list_all (λ began. nat_le began (time_of past)) (hold_times id past) ≡ true
holds_past id [] = refl
holds_past id (NewTable table ∷ past) = refl
holds_past id (Enter stage grace ∷ past) = refl
holds_past id (Hold i ∷ past) = at (same_id id i) (holds_past id past)
  where
    at : (b : Bool) → list_all (λ began. nat_le began (time_of past)) (hold_times id past) ≡ true → list_all
        (λ began. nat_le began (time_of past)) (cond b (time_of past ∷ hold_times id past) (hold_times id past)) ≡ true
    at true h = and_from (nat_le (time_of past) (time_of past)) (list_all (λ began. nat_le began (time_of past))
        (hold_times id past)) (le-leb (time_of past) (time_of past) (omega arith)) h
    at false h = h
holds_past id (Clock reading ∷ past) = all_later (hold_times id past) (holds_past id past)
  where
    all_later : (times : List ℕ) → list_all (λ began. nat_le began (time_of past)) times ≡ true
        → list_all (λ began. nat_le began (max (min reading CLOCK_LIMIT) (time_of past))) times ≡ true
    all_later [] h = refl
    all_later (t ∷ times) h =
        let parts = and_parts (nat_le t (time_of past)) (list_all (λ began. nat_le began (time_of past)) times) h in
        let before : t ≤ time_of past = leb-true t (time_of past) parts.0 in
        and_from (nat_le t (max (min reading CLOCK_LIMIT) (time_of past)))
        (list_all (λ began. nat_le began (max (min reading CLOCK_LIMIT) (time_of past))) times)
        (le-leb t (max (min reading CLOCK_LIMIT) (time_of past)) (omega arith)) (all_later times parts.1)
holds_past id (_ ∷ past) = holds_past id past

none_of : (now last : ℕ) (times : List ℕ) → list_all (λ began. nat_le began last) times ≡ true
    → nat_lt now (last + HOLD) ≡ false → list_any (λ began. nat_lt now (began + HOLD)) times ≡ false
none_of now last [] h over = grind arith
none_of now last (t ∷ times) h over = grind (arith, none_of now last times)

-- the last hold is in force exactly if one of all holds is
pub held_by_last : (id : List ℕ) (past : List Event) (now : ℕ) → window.is_held (last_hold_end (hold_times id past)) now
    ≡ list_any (λ began. nat_lt now (began + HOLD)) (hold_times id past)
held_by_last id [] now = refl
held_by_last id (NewTable table ∷ past) now = refl
held_by_last id (Enter stage grace ∷ past) now = refl
held_by_last id (Hold i ∷ past) now = at (same_id id i) (held_by_last id past now)
  where
    more : (b : Bool) → nat_lt now (time_of past + HOLD) ≡ b
        → nat_lt now (time_of past + HOLD) ≡ (b || list_any (λ began. nat_lt now (began + HOLD)) (hold_times id past))
    more true is = is
    more false is = is ∙ sym (none_of now (time_of past) (hold_times id past) (holds_past id past) is)

    at : (b : Bool) → window.is_held (last_hold_end (hold_times id past)) now
        ≡ list_any (λ began. nat_lt now (began + HOLD)) (hold_times id past)
        → window.is_held (last_hold_end (cond b (time_of past ∷ hold_times id past) (hold_times id past))) now
        ≡ list_any (λ began. nat_lt now (began + HOLD))
        (cond b (time_of past ∷ hold_times id past) (hold_times id past))
    at true h = more (nat_lt now (time_of past + HOLD)) refl
    at false h = h
held_by_last id (_ ∷ past) now = held_by_last id past now

pub held_fits : (id : List ℕ) (past : List Event)
    → window.is_held (last_hold_end (hold_times id past)) (time_of past) ≡ is_held id past
held_fits id past = held_by_last id past (time_of past)

-- the limiter allows a start exactly if no hold is in force and the window is not full
pub allows_by : (limiter : LimiterState) (now : ℕ) → allows (window.may_of limiter now)
    ≡ (not (window.is_held limiter.held now) && not (window.is_full limiter.starts now))
allows_by limiter now = grind arith
