-- When the first SIGKILL may be due.
use Rattle.std.specs.Prelude.{ℕ, Bool, false, ◌+◌, nat_le, Option, Some, None}

-- there is a time, and the grace period has passed since then
abbrev pub is_past : ℕ → ℕ → Option ℕ → Bool
is_past grace now None = false
is_past grace now (Some time) = nat_le (time + grace) now
