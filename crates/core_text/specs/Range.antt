-- Which states a version of the text can represent: the numbers and the table are in range, the generation is at least
-- 1, the grace period is 0 before the first stage, and no further re-execution is pending.
use Rattle.std.specs.Prelude.{ℕ, Bool, true, not, ◌==◌, ◌^◌, ◌+◌, ◌&&◌, nat_le, nat_lt, List, length, Option, Some}
use Rattle.std.specs.Prelude.{None, is_none}
use Rattle.std.specs.List.{list_all}
use Rattle.core_text.specs.CommonWords.{Status, Stage, is_id, is_table, Goal, STARTS, Stop, Due, Termed, Killed}
use Rattle.core_text.specs.CommonWords.{CoreFields, PlainSlot, SavedState}
use Rattle.init_words.specs.declared.limits.TheConstants.{GRACE_LIMIT}
use Rattle.trace_events.specs.Range.{is_status}
use Rattle.child_table.specs.State.{SlotState, child_number}
use Rattle.core_model.specs.State.{CoreState}
use Rattle.core_text.specs.declared.versions.Version.{Version}
use Rattle.core_text.specs.declared.versions.Version.TheVariants.{V1, V2}
use Rattle.core_text.specs.Versions.{holds_id, holds_table}

abbrev pub is_time : ℕ → Bool
is_time time = nat_lt time (2 ^ 64)

abbrev pub is_child : ℕ → Bool
is_child number = nat_lt number (2 ^ 32)

abbrev pub is_seconds : ℕ → Bool
is_seconds seconds = nat_lt seconds (GRACE_LIMIT + 1)

-- there is no value, or it passes the test
abbrev pub passes : {X : Type 0} → (X → Bool) → Option X → Bool
passes test None = true
passes test (Some x) = test x

abbrev pub is_generation : ℕ → Bool
is_generation generation = is_time generation && nat_le 1 generation

abbrev pub is_stage : Option Stage → ℕ → Bool
is_stage None grace = grace == 0
is_stage (Some stage) grace = is_seconds grace

abbrev pub is_goal : Goal → Bool
is_goal goal = is_seconds goal.grace

abbrev pub is_stop : Stop → Bool
is_stop Due = true
is_stop (Termed time) = is_time time
is_stop (Killed time) = is_time time

abbrev pub are_starts : List ℕ → Bool
are_starts times = nat_le (length times) STARTS && list_all is_time times

-- the text can represent these fields
abbrev pub are_fields : CoreFields → Bool
are_fields fields =
    is_generation fields.generation && is_time fields.time && is_stage fields.stage fields.grace && is_goal fields.goal
    && not fields.reexec && passes is_goal fields.level_wish

-- the text can represent how the last child ended: version 1 cannot represent any status
abbrev pub is_last_status : Version → Option Status → Bool
is_last_status V1 last = is_none last
is_last_status V2 last = passes is_status last

-- this version can represent the record
abbrev pub is_record : Version → PlainSlot → Bool
is_record version plain =
    (is_id plain.id && holds_id version plain.id) && passes is_child plain.child && passes is_stop plain.stop
    && passes is_time plain.held_until && (are_starts plain.starts.items && is_last_status version plain.last)

-- this version can represent the state
abbrev pub is_state : Version → SavedState → Bool
is_state version state =
    are_fields state.fields && (is_table state.table && holds_table version state.table)
    && list_all (is_record version) state.records

-- each grace period in the core is at most 3,600 seconds, and the current one is 0 before the first stage
abbrev pub has_short_seconds : CoreState → Bool
has_short_seconds c =
    is_stage c.fields.stage c.fields.grace && is_goal c.fields.goal && passes is_goal c.fields.level_wish

-- the record's id is valid, and the text can represent the number of its child and the status of its last child
abbrev pub has_ranged_words : SlotState → Bool
has_ranged_words slot = is_id slot.id && passes is_child (child_number slot) && passes is_status slot.last
