-- The state of a log as contracts see it, and how taking a happening changes it.
use Rattle.std.specs.Prelude.{ℕ, Bool, List, [], ◌∷◌, ◌++◌, Option}
use Rattle.trace_events.specs.Event.{Event}

-- `taken` is true of the happenings that the log has taken, oldest first; `failed` is true if the log has failed;
-- `noted` is the id whose exit statuses it notes, if any
pub record LogState : Type 1 where
  pub taken : List Event → Type 0
  pub failed : Bool
  pub noted : Option (List ℕ)

-- the log has taken this happening, after all happenings that it had taken before
abbrev pub AcceptsHappening : LogState → LogState → Event → Type 0
AcceptsHappening old new happening = (before : List Event) → old.taken before → new.taken (before ++ happening ∷ [])

-- the log has not taken any more happenings
abbrev pub Stays : LogState → LogState → Type 0
Stays old new = (before : List Event) → old.taken before → new.taken before
