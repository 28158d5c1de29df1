-- The steps that init takes one after another until it is at rest.
use Rattle.std.specs.Prelude.{ℕ, zero, suc, if◌then◌else◌, List}
use Rattle.core_waiting.specs.Words.{Goal, Event, due, first, is_rest, CoreState, decide, with_step}
use Rattle.core_model.specs.Steps.{after_step}

-- the trace after init takes up to this many steps, each the first due step; init stops early if no step is due, or if
-- the next step is to read inittab or to re-execute init
abbrev pub with_own_steps : Goal → ℕ → List Event → List Event
with_own_steps goal zero past = past
with_own_steps goal (suc n) past =
    let step = first (due goal past) in
    if is_rest step then past else with_own_steps goal n (with_step step past)

-- the state of init after it takes up to this many steps
abbrev pub after_init_steps : ℕ → CoreState → CoreState
after_init_steps zero core = core
after_init_steps (suc n) core =
    if is_rest (decide core) then core else after_init_steps n (after_step (decide core) core)
