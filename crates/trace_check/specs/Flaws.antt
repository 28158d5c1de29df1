-- The law that a happening breaks, computed from the state and the table. Each definition corresponds to one in
-- `trace_events` that uses the past instead of the state.
use Rattle.std.specs.Prelude.{◌≡◌, IsTrue, ℕ, Bool, true, false, not, ◌&&◌, ◌||◌, ◌-◌, if◌then◌else◌, nat_lt, nat_le}
use Rattle.std.specs.Prelude.{List, slice_get, take, find, Option, Some, None, is_none, is_some}
use Rattle.std.specs.Map.{keys_of}
use Rattle.std.specs.Option.{option_map_or}
use Rattle.std.specs.List.{list_any, list_all}
use Rattle.trace_check.specs.Words.{HOLD, STARTS, WINDOW, Entry, At, Start, Term, Kill, names, wanted_by, is_limited}
use Rattle.trace_check.specs.Words.{served_by, entry_of, act_of, NewTable, Enter, Call, Power, Asked, Hold, Settle}
use Rattle.trace_check.specs.Words.{Birth, Told, Event, starts_in, is_order, entries_before}
use Rattle.init_words.specs.declared.levels.Level.{Level}
use Rattle.init_words.specs.Entries.{waited_of}
use Rattle.trace_events.specs.Wishes.{is_level}
use Rattle.trace_check.specs.State.{JudgeState, at, among, times_at}
use Rattle.trace_check.specs.After.{is_child_excluded}

-- the id has an unreaped child
abbrev pub is_alive : JudgeState → List ℕ → Bool
is_alive s id = is_some (at id s.children)

-- the id's child is excluded
abbrev pub is_excluded_in : List Entry → JudgeState → List ℕ → Bool
is_excluded_in table s id = is_child_excluded table s.stage (λ i. at i s.children) id

-- no child is excluded
abbrev pub none_excluded_in : List Entry → JudgeState → Bool
none_excluded_in table s = not (list_any (is_excluded_in table s) (keys_of s.children))

-- if `calm` is true, no child is excluded
abbrev pub NoneExcludedIfCalm : Bool → List Entry → JudgeState → Type 0
NoneExcludedIfCalm calm table s = IsTrue calm → (id : List ℕ) → is_excluded_in table s id ≡ false

-- `calm` after a happening that breaks no law: it becomes true at a birth and a settled level, which are lawful only if
-- no child is excluded, and false at a new stage or table, which may exclude one
abbrev pub calm_after : Event → Bool → Bool
calm_after (Birth id number) calm = true
calm_after (Settle level) calm = true
calm_after (Enter stage grace) calm = false
calm_after (NewTable table) calm = false
calm_after _ calm = calm

-- the id has an entry that starts in the stage
abbrev pub is_placed_in : List Entry → JudgeState → List ℕ → Bool
is_placed_in table s id = option_map_or (λ e. starts_in e s.stage) (entry_of id table) false

-- a Start of the id is open
abbrev pub is_starting : JudgeState → List ℕ → Bool
is_starting s id = is_order Start (at id s.orders)

abbrev pub is_wanted_in : JudgeState → Entry → Bool
is_wanted_in s e =
    starts_in e s.stage
    && wanted_by e.act (not (among e.id s.kept) && not (is_starting s e.id)) (not (among e.id s.asked))
    (among e.id s.called)

abbrev pub is_owed_in : JudgeState → Entry → Bool
is_owed_in s e = waited_of e && (among e.id s.kept || is_starting s e.id || is_wanted_in s e)

-- the first owed entry before the id's entry
abbrev pub first_owed_in : List Entry → JudgeState → List ℕ → Option Entry
first_owed_in table s id = find (is_owed_in s) (entries_before id table)

-- no entry before the id's entry is owed
abbrev pub is_in_turn_in : List Entry → JudgeState → List ℕ → Bool
is_in_turn_in table s id = is_none (first_owed_in table s id)

-- none of the first `count` entries of the table is owed
abbrev pub IsUnowedPrefix : ℕ → List Entry → JudgeState → Type 0
IsUnowedPrefix count table s = list_any (is_owed_in s) (take count table) ≡ false

-- init waits for the id's entry, and the entry is not owed
abbrev pub is_over_with : List Entry → JudgeState → List ℕ → Bool
is_over_with table s id = option_map_or (λ e. waited_of e && not (is_owed_in s e)) (entry_of id table) false

-- after the happening, the number of entries at the front of the table that are known not to be owed: a stage, a table
-- or a call may make any entry owed, and a happening about an id may make the id's entry owed, if init waits for it and
-- it was not owed
abbrev pub unowed_count_after : List Entry → JudgeState → Event → ℕ → ℕ
unowed_count_after table s (Enter stage grace) count = 0
unowed_count_after table s (NewTable next) count = 0
unowed_count_after table s (Power kind) count = 0
unowed_count_after table s (Call letter) count = 0
unowed_count_after table s (Asked id ask) count = if not (is_over_with table s id) then count else 0
unowed_count_after table s (Birth id number) count = if not (is_over_with table s id) then count else 0
unowed_count_after table s (Told id) count = if not (is_over_with table s id) then count else 0
unowed_count_after table s _ count = count

-- the id is held: its last hold began less than five minutes ago
abbrev pub is_held_in : JudgeState → List ℕ → Bool
is_held_in s id = option_map_or (λ began. nat_lt (s.time - began) HOLD) (at id s.holds) false

-- the window of the id is full: its tenth-last start is less than two minutes old
abbrev pub is_full_in : JudgeState → List ℕ → Bool
is_full_in s id =
    option_map_or (λ started. nat_lt (s.time - started) WINDOW) (slice_get (times_at id s.starts) (STARTS - 1)) false

-- the respawn limit applies to the id's entry
abbrev pub is_limited_in : List Entry → List ℕ → Bool
is_limited_in table id = option_map_or is_limited (act_of id table) false

-- the respawn limit allows a start of the id now
abbrev pub is_free_in : List Entry → JudgeState → List ℕ → Bool
is_free_in table s id = not (is_limited_in table id) || not (is_held_in s id) && not (is_full_in s id)

-- the respawn limit allows a hold of the id now
abbrev pub is_due_hold_in : List Entry → JudgeState → List ℕ → Bool
is_due_hold_in table s id = is_limited_in table id && not (is_held_in s id) && is_full_in s id

abbrev pub is_served_in : Level → JudgeState → Entry → Bool
is_served_in level s e =
    not (is_owed_in s e)
    && (not (names (At level) e.levels.items)
    || served_by e.act (among e.id s.asked) (is_alive s e.id || is_held_in s e.id))

abbrev pub is_settled_in : Level → List Entry → JudgeState → Bool
is_settled_in level table s =
    is_level level s.stage && none_excluded_in table s && list_all (is_served_in level s) table

-- the grace period has passed since init learned of the first TERM in the spell of the id's child
abbrev pub is_over_in : JudgeState → List ℕ → Bool
is_over_in s id =
    option_map_or (λ told. nat_le told s.time && nat_le s.grace (s.time - told)) (at id s.termed) false

-- a KILL of the id's child is lawful
abbrev pub may_kill_in : List Entry → JudgeState → List ℕ → Bool
may_kill_in table s id = is_excluded_in table s id && is_over_in s id

-- the number of the lowest-numbered law that a birth breaks, if any
abbrev pub flaw_of_birth : List Entry → JudgeState → List ℕ → Option ℕ
flaw_of_birth table s id =
    if is_alive s id then Some 1 else if not (is_placed_in table s id) then Some 2
    else if not (is_in_turn_in table s id) then Some 3 else if not (none_excluded_in table s) then Some 4 else None

-- the number of the lowest-numbered law that the happening breaks, if any
abbrev pub flaw_in : List Entry → JudgeState → Event → Option ℕ
flaw_in table s (Birth id number) = flaw_of_birth table s id
flaw_in table s (Settle level) = if not (is_settled_in level table s) then Some 5 else None
flaw_in table s (Asked id Start) = if not (is_free_in table s id) then Some 6 else None
flaw_in table s (Hold id) = if not (is_due_hold_in table s id) then Some 6 else None
flaw_in table s (Asked id Term) = if not (is_excluded_in table s id) then Some 7 else None
flaw_in table s (Asked id Kill) = if not (may_kill_in table s id) then Some 7 else None
flaw_in table s _ = None
