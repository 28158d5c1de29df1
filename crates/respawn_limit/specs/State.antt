-- The state of a respawn limiter, as contracts see it.
use Rattle.std.specs.Prelude.{ℕ, List, [], Option, None}

-- the times of the last starts, oldest first, and the end of the last hold, in seconds
pub record LimiterState : Type 0 where
  pub starts : List ℕ
  pub held : Option ℕ

-- no starts and no hold
abbrev pub unused : LimiterState
unused = record { starts = []; held = None }
