-- Stretches of a trace: the happenings between two points in it.
use Rattle.std.specs.Prelude.{ℕ, Bool, true, false, ◌&&◌, ◌==◌, ◌+◌, if◌then◌else◌, List, [], ◌∷◌}
use Rattle.trace_laws.specs.Words.{Start, NewTable, Asked, Reaped, Event, Child, is_excluded, is_unreaped}
use Rattle.init_words.specs.Ids.{same_id}
use Rattle.trace_events.specs.declared.happenings.Happening.TheVariants.{Enter}

-- the stretch has no new stage and no new table
abbrev pub is_steady : List Event → Bool
is_steady [] = true
is_steady (NewTable table ∷ stretch) = false
is_steady (Enter stage grace ∷ stretch) = false
is_steady (_ ∷ stretch) = is_steady stretch

-- the number of starts of the id that were ordered in the stretch
abbrev pub count_starts : List ℕ → List Event → ℕ
count_starts id [] = 0
count_starts id (Asked i Start ∷ stretch) =
    if same_id id i then count_starts id stretch + 1 else count_starts id stretch
count_starts id (_ ∷ stretch) = count_starts id stretch

-- the happening is an order for the id
abbrev pub is_order_of : List ℕ → Event → Bool
is_order_of id (Asked i ask) = same_id id i
is_order_of id _ = false

-- the happening is the reaping of the child with this id and number
abbrev pub is_reaping_of : List ℕ → ℕ → Event → Bool
is_reaping_of id n (Reaped i m status) = same_id id i && n == m
is_reaping_of id n _ = false

-- the child is excluded, and its number is that of an unreaped child of the id
abbrev pub is_stoppable : List ℕ → List Event → Child → Bool
is_stoppable id past child = is_excluded past child && is_unreaped id child.number past
