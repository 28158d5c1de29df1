-- Facts for the report at the end of a run, derived from its trace, newest first: the last exit status of an id, and
-- the unreaped children.
use Rattle.std.specs.Prelude.{ℕ, if◌then◌else◌, List, [], ◌∷◌, Option, Some, None}
use Rattle.init_words.specs.declared.children.Status.{Status}
use Rattle.init_words.specs.Ids.{same_id}
use Rattle.trace_events.specs.declared.happenings.Happening.TheVariants.{Birth, Reaped}
use Rattle.trace_events.specs.Event.{Event}

-- the exit status of the last reaped child of the id
abbrev pub last_end : List ℕ → List Event → Option Status
last_end id [] = None
last_end id (Reaped other number status ∷ past) = if same_id id other then Some status else last_end id past
last_end id (_ ∷ past) = last_end id past

-- the number of the last child of the id, if it has not been reaped
abbrev pub number_of : List ℕ → List Event → Option ℕ
number_of id [] = None
number_of id (Birth other number ∷ past) = if same_id id other then Some number else number_of id past
number_of id (Reaped other number status ∷ past) = if same_id id other then None else number_of id past
number_of id (_ ∷ past) = number_of id past
