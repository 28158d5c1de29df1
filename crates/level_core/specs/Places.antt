-- The positions at which the searches for looks, signals and starts begin, because nothing before them is due.
use Rattle.std.specs.Prelude.{◌≡◌, ◌≤◌, ◌<◌, ℕ, Bool, true, false, not, ◌&&◌, List, zip, take, slice_get, Option, Some}
use Rattle.std.specs.Prelude.{None, is_some, is_none}
use Rattle.std.specs.List.{list_all}
use Rattle.std.specs.Option.{option_map_or}
use Rattle.init_words.specs.Actions.{is_limited}
use Rattle.init_words.specs.declared.entries.Entry.{Entry}
use Rattle.init_words.specs.declared.orders.Answer.{Answer}
use Rattle.init_words.specs.declared.orders.Answer.TheVariants.{Born, NotBorn, Ended}
use Rattle.respawn_limit.specs.Window.{is_held}
use Rattle.level_core.specs.Words.{Stage, SlotState, is_wanted_record, is_owed_record, stop_step}
use Rattle.level_core.specs.declared.walk_places.Places.{Places}
use Rattle.level_core.specs.Between.{AllExcept}

-- the record is seen: no look at its child is due, regardless of any open order
abbrev pub is_seen_record : SlotState → Bool
is_seen_record slot = not (is_some slot.child && slot.look)

-- each record before the position is seen
abbrev pub are_seen : ℕ → List SlotState → Bool
are_seen position slots = list_all is_seen_record (take position slots)

-- the entry is held now
abbrev pub is_held_back : ℕ → Entry → SlotState → Bool
is_held_back now e slot = is_limited e.act && is_held slot.limiter.held now

-- the entry with this record is passed: it need not be started now, regardless of any open order, and is not owed
abbrev pub is_passed_record : Stage → ℕ → Entry → SlotState → Bool
is_passed_record stage now e slot =
    not ((is_wanted_record stage e slot && is_none slot.child) && not (is_held_back now e slot))
    && not (is_owed_record stage e slot)

-- the entry is passed in the stage; before the first stage every entry is passed
abbrev pub is_passed_in : Option Stage → ℕ → Entry → SlotState → Bool
is_passed_in None now e slot = true
is_passed_in (Some stage) now e slot = is_passed_record stage now e slot

-- the entry and the record at the position are passed, or do not exist
abbrev pub is_passed_at : Option Stage → ℕ → List (Entry × SlotState) → ℕ → Bool
is_passed_at stage now pairs position =
    option_map_or (λ (p : Entry × SlotState). is_passed_in stage now p.0 p.1) (slice_get pairs position) true

-- all entries from one position to another are passed
abbrev pub ArePassedFrom : Option Stage → ℕ → List (Entry × SlotState) → ℕ → ℕ → Type 0
ArePassedFrom stage now pairs from to =
    (position : ℕ) → from ≤ position → position < to → is_passed_at stage now pairs position ≡ true

-- all entries before `next` are passed, except for the one at `first`
abbrev pub ArePassed : Option Stage → ℕ → Places → List Entry → List SlotState → Type 0
ArePassed stage now places table slots = AllExcept (is_passed_at stage now (zip table slots)) places

-- no signal is due for the record at the position, or it does not exist
abbrev pub no_signal_due_at : ℕ → ℕ → List SlotState → ℕ → Bool
no_signal_due_at grace now slots position =
    option_map_or (λ (slot : SlotState). is_none (stop_step grace now slot)) (slice_get slots position) true

-- no signal is due for a record before the position
abbrev pub NoSignalDueBefore : ℕ → ℕ → ℕ → List SlotState → Type 0
NoSignalDueBefore grace now to slots =
    (position : ℕ) → position < to → no_signal_due_at grace now slots position ≡ true

-- the answer is to a start, or reports the end of a child, so it may change which entry to start next
abbrev pub changes_starts : Answer → Bool
changes_starts (Born number) = true
changes_starts NotBorn = true
changes_starts (Ended status) = true
changes_starts _ = false
