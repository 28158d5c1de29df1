-- The respawn limit in terms of the trace: init holds an entry for five minutes if it was started ten times in two
-- minutes (init(8)).
use Rattle.std.specs.Prelude.{ℕ, Bool, ◌-◌, ◌+◌, if◌then◌else◌, nat_lt, nat_le, List, [], ◌∷◌, filter, length}
use Rattle.std.specs.List.{list_any}
use Rattle.trace_events.specs.Words.{HOLD, STARTS, WINDOW, Start, same_id}
use Rattle.trace_events.specs.declared.happenings.Happening.TheVariants.{NewTable, Enter, Asked, Hold}
use Rattle.trace_events.specs.Event.{Event}
use Rattle.trace_events.specs.Past.{time_of}

-- the times of the Starts ordered for the id since the last Enter or table, newest first
abbrev pub start_times : List ℕ → List Event → List ℕ
start_times id [] = []
start_times id (NewTable table ∷ past) = []
start_times id (Enter stage grace ∷ past) = []
start_times id (Asked i Start ∷ past) =
    if same_id id i then time_of past ∷ start_times id past else start_times id past
start_times id (_ ∷ past) = start_times id past

-- the times of the Holds of the id since the last Enter or table, newest first
abbrev pub hold_times : List ℕ → List Event → List ℕ
hold_times id [] = []
hold_times id (NewTable table ∷ past) = []
hold_times id (Enter stage grace ∷ past) = []
hold_times id (Hold i ∷ past) = if same_id id i then time_of past ∷ hold_times id past else hold_times id past
hold_times id (_ ∷ past) = hold_times id past

-- the id is held: one of its Holds (`hold_times`) began less than five minutes ago
abbrev pub is_held : List ℕ → List Event → Bool
is_held id past = list_any (λ began. nat_lt (time_of past) (began + HOLD)) (hold_times id past)

-- the window of the id is full: at least ten of its Starts (`start_times`) were ordered less than two minutes ago
abbrev pub is_full : List ℕ → List Event → Bool
is_full id past =
    nat_le STARTS (length (filter (λ started. nat_lt (time_of past - started) WINDOW) (start_times id past)))
