-- The sliding window: ten starts in two minutes, then a hold of five minutes (init(8)).
use Rattle.std.specs.Prelude.{◌≡◌, ℕ, ◌+◌, ◌-◌, Bool, false, List, [], ◌∷◌, ◌++◌, length, drop, count_by, nat_lt}
use Rattle.std.specs.Prelude.{nat_le, if◌then◌else◌, Option, Some, None}
use Rattle.std.specs.List.Sorted.{IsNonDecreasing}
use Rattle.respawn_limit.specs.declared.TheConstants.{HOLD, STARTS, WINDOW}
use Rattle.respawn_limit.specs.declared.May.{May}
use Rattle.respawn_limit.specs.declared.May.TheVariants.{Yes, HoldUntil}
use Rattle.respawn_limit.specs.State.{LimiterState}

-- a start at this time still counts toward the limit: it was less than two minutes ago
abbrev pub is_recent : ℕ → ℕ → Bool
is_recent now start = nat_lt (now - start) WINDOW

-- the window is full: at least ten starts still count toward the limit
abbrev pub is_full : List ℕ → ℕ → Bool
is_full noted now = nat_le STARTS (count_by (is_recent now) noted)

-- a hold that ends at this time is still in force
abbrev pub is_held : Option ℕ → ℕ → Bool
is_held None now = false
is_held (Some end) now = nat_lt now end

-- the answer when no hold is in force: Yes, or a hold until five minutes from now if the window is full
abbrev pub window_answer : List ℕ → ℕ → May
window_answer noted now = if is_full noted now then HoldUntil (now + HOLD) else Yes

-- the answer after these starts and this last hold: the end of the hold while it lasts, otherwise the window's answer
abbrev pub answer : List ℕ → Option ℕ → ℕ → May
answer noted None now = window_answer noted now
answer noted (Some end) now = if nat_lt now end then HoldUntil end else window_answer noted now

-- the answer of a limiter in this state
abbrev pub may_of : LimiterState → ℕ → May
may_of limiter now = answer limiter.starts limiter.held now

-- the last ten of these times, or all of them if there are fewer
abbrev pub last_starts : List ℕ → List ℕ
last_starts times = drop (length times - STARTS) times

-- the limiter after one more start
abbrev pub with_start : LimiterState → ℕ → LimiterState
with_start limiter now = record limiter { starts = last_starts (limiter.starts ++ now ∷ []) }

-- the limiter after a hold of five minutes from now
abbrev pub with_hold : LimiterState → ℕ → LimiterState
with_hold limiter now = record limiter { held = Some (now + HOLD) }

-- the starts are the last ten of all the times noted, which do not decrease
pub record KeepsLastStarts (starts noted : List ℕ) : Type 0 where
  pub last : starts ≡ last_starts noted
  pub ordered : IsNonDecreasing noted
