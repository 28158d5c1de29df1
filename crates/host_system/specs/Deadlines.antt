-- Deadlines that follow events after a fixed time, such as the end of the grace period after a SIGTERM.
use Rattle.std.specs.Prelude.{ℕ, ◌≤◌, ◌<◌, ◌+◌, Option, IsSomeAnd}
use Rattle.host_system.specs.declared.deadlines.Span.{Span}

-- the first and the last time of the events are known, and this time lies between them
abbrev pub Covers : Option Span → ℕ → Type 0
Covers span time = IsSomeAnd span (λ known. (known.first ≤ time) × (time ≤ known.last))

-- there is a deadline, no later than that of any event that has not reached the age yet
abbrev pub IsNextDeadline : Option Span → ℕ → ℕ → Option ℕ → Type 0
IsNextDeadline span age now deadline =
    (time : ℕ) → Covers span time → now < time + age → IsSomeAnd deadline (λ next. next ≤ time + age)
