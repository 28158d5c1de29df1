-- Properties of all positions before `next`, except for one.
use Rattle.std.specs.Prelude.{◌≡◌, ◌≢◌, ◌≤◌, ◌<◌, ℕ, Bool, true}
use Rattle.level_core.specs.declared.walk_places.Places.{Places}

-- the test holds for each position before `next`, except for `first`, which is not after `next`
abbrev pub AllExcept : (ℕ → Bool) → Places → Type 0
AllExcept test places =
    (places.first ≤ places.next) × ((i : ℕ) → i < places.next → i ≢ places.first → test i ≡ true)
