-- The notes on the happenings that a log has taken.
use Rattle.std.specs.Prelude.{◌≡◌, ℕ, Bool, true, false, List, Option, Some, None}
use Rattle.std.specs.List.{IsDistinct}
use Rattle.std.specs.Map.{keys_of, lookup}
use Rattle.init_words.specs.declared.children.Status.{Status}
use Rattle.init_words.specs.Ids.{same_id}
use Rattle.trace_events.specs.Event.{Event}
use Rattle.trace_log_wrappers.specs.Ends.{last_end, number_of}

-- the id whose last exit status is noted, if any, and that status; the numbers of the unreaped children by id, and
-- whether there was enough memory to note all of them
pub record Notes : Type 0 where
  pub wanted : Option (List ℕ)
  pub last : Option Status
  pub running : List (List ℕ × ℕ)
  pub complete : Bool

-- the id is the one whose last exit status is noted
abbrev pub is_wanted : List ℕ → Option (List ℕ) → Bool
is_wanted id None = false
is_wanted id (Some wanted) = same_id id wanted

-- if the last exit status of an id is noted, this is that status in the trace, newest first
abbrev pub IsLast : Option Status → Option (List ℕ) → List Event → Type 0
IsLast last wanted past = (id : List ℕ) → is_wanted id wanted ≡ true → last ≡ last_end id past

-- the number that the list has for the id
abbrev pub number_in : List ℕ → List (List ℕ × ℕ) → Option ℕ
number_in id running = lookup (same_id id) running

-- no id is in the list twice; and for each id, the list has the number of its unreaped child in the trace, newest
-- first, or none if it has no unreaped child
abbrev pub IsRunning : List (List ℕ × ℕ) → List Event → Type 0
IsRunning running past =
    IsDistinct same_id (keys_of running) × ((id : List ℕ) → number_in id running ≡ number_of id past)

-- the notes are right for this trace, newest first; if memory ran out before all children were noted, the list may have
-- any contents
pub record AreNotesOf (notes : Notes) (past : List Event) : Type 0 where
  pub last : IsLast notes.last notes.wanted past
  pub running : notes.complete ≡ true → IsRunning notes.running past
