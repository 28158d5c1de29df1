-- After a start, a hold and a later time, the limiter is still one that the rules allow.
use Rattle.core_model.proofs.Words.{◌≡◌, ◌≤◌, refl, sym, ap, ◌∙◌, Bool, true, false, not, ◌&&◌, ◌==◌, ℕ, zero, suc, ◌+◌}
use Rattle.core_model.proofs.Words.{◌-◌, List, [], ◌∷◌, ◌++◌, length, drop, nat_le, Option, arith, length-drop}
use Rattle.core_model.proofs.Words.{list_all, false≢true, and_parts, and_from, eqb-true, eq-eqb, leb-true, le-leb}
use Rattle.core_model.proofs.Words.{list_all-append, count_by-le-length, HOLD, STARTS, LimiterState, may_of}
use Rattle.core_model.proofs.Words.{last_starts, with_start, with_hold, SlotState, allows, is_non_decreasing}
use Rattle.core_model.proofs.Words.{is_hold_of}
use Rattle.core_model.proofs.Words.{is_limit_kept, is_limiter_consistent}
use Rattle.std.proofs.Common.{length-append}
use Rattle.respawn_limit.specs.Window.{is_full, is_held}
use Rattle.core_model.proofs.Windows.{allows_by}

pub record IsKept (now : ℕ) (limiter : LimiterState) : Type 0 where
  pub few : length limiter.starts ≤ STARTS
  pub rising : is_non_decreasing limiter.starts ≡ true
  pub hold : is_hold_of now limiter limiter.held ≡ true

pub kept_parts : (now : ℕ) (limiter : LimiterState) → is_limit_kept now limiter ≡ true → IsKept now limiter
kept_parts now limiter h =
    let parts = and_parts (nat_le (length limiter.starts) STARTS && is_non_decreasing limiter.starts)
    (is_hold_of now limiter limiter.held) h in
    let first = and_parts (nat_le (length limiter.starts) STARTS) (is_non_decreasing limiter.starts) parts.0 in
    record { few = leb-true (length limiter.starts) STARTS first.0; rising = first.1; hold = parts.1 }

pub kept_from : (now : ℕ) (limiter : LimiterState) → IsKept now limiter → is_limit_kept now limiter ≡ true
kept_from now limiter kept = and_from (nat_le (length limiter.starts) STARTS && is_non_decreasing limiter.starts)
    (is_hold_of now limiter limiter.held)
    (and_from (nat_le (length limiter.starts) STARTS) (is_non_decreasing limiter.starts)
    (le-leb (length limiter.starts) STARTS kept.few) kept.rising) kept.hold

-- a start that is not before the others keeps the order, and so does dropping the first ones
rising_push : (now : ℕ) (starts : List ℕ) → list_all (λ start. nat_le start now) starts ≡ true
    → is_non_decreasing starts ≡ true → is_non_decreasing (starts ++ now ∷ []) ≡ true
rising_push now [] past rising = grind (arith, list_all-append)
rising_push now (start ∷ starts) past rising = grind (arith, rising_push now starts, list_all-append)

rising_drop : (n : ℕ) (starts : List ℕ) → is_non_decreasing starts ≡ true → is_non_decreasing (drop n starts) ≡ true
rising_drop zero starts rising = rising
rising_drop (suc n) [] rising = refl
rising_drop (suc n) (start ∷ starts) rising =
    rising_drop n starts (and_parts (list_all (λ later. nat_le start later) starts) (is_non_decreasing starts) rising).1

ten_after : (now : ℕ) (starts : List ℕ)
    → length (last_starts (starts ++ now ∷ [])) ≡ length starts + 1 - (length starts + 1 - STARTS)
ten_after now starts = length-drop (length (starts ++ now ∷ []) - STARTS) (starts ++ now ∷ [])
    ∙ ap (λ n. n - (n - STARTS)) (length-append starts (now ∷ []))

hold_after : (now : ℕ) (limiter : LimiterState) (held : Option ℕ) → is_hold_of now limiter held ≡ true
    → is_hold_of now (with_start limiter now) held ≡ true
hold_after now limiter held h = grind (arith, eqb-true, eq-eqb, ten_after)

pub start_kept : (now : ℕ) (limiter : LimiterState) → list_all (λ start. nat_le start now) limiter.starts ≡ true
    → is_limit_kept now limiter ≡ true → is_limit_kept now (with_start limiter now) ≡ true
start_kept now limiter past h = grind (arith, kept_parts, ten_after, kept_from, rising_drop, rising_push, hold_after)

-- a hold comes only when the window is full, so there are ten starts
full_ten : (now : ℕ) (limiter : LimiterState) → length limiter.starts ≤ STARTS → is_full limiter.starts now ≡ true
    → length limiter.starts ≡ STARTS
full_ten now limiter few full = grind (arith, leb-true, count_by-le-length)

pub hold_kept : (now : ℕ) (limiter : LimiterState) → not (is_held limiter.held now) ≡ true → not (allows
    (may_of limiter now)) ≡ true → is_limit_kept now limiter ≡ true → is_limit_kept now (with_hold limiter now) ≡ true
hold_kept now limiter free denied h =
    let kept = kept_parts now limiter h in
    let full : is_full limiter.starts now ≡ true = at (not (is_held limiter.held now)) (is_full limiter.starts now) free
    (sym (ap not (allows_by limiter now)) ∙ denied) in
    kept_from now (with_hold limiter now) (record {
      few = kept.few;
      rising = kept.rising;
      hold = and_from (length limiter.starts == STARTS) (nat_le (now + HOLD) (now + HOLD)) (eq-eqb (length
          limiter.starts) STARTS (full_ten now limiter kept.few full)) (le-leb (now + HOLD) (now + HOLD) (omega arith));
    })
  where
    at : (f w : Bool) → f ≡ true → not (f && not w) ≡ true → w ≡ true
    at true true h k = refl
    at true false h k = absurd (false≢true k)
    at false w h k = absurd (false≢true h)

pub limiter_later : (now later : ℕ) → now ≤ later → (slot : SlotState) → is_limiter_consistent now slot ≡ true
    → is_limiter_consistent later slot ≡ true
limiter_later now later h slot kept = grind arith
