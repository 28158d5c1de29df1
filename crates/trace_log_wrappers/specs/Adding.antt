-- How the state of a log changes when it takes several happenings.
use Rattle.std.specs.Prelude.{◌≡◌, List, ◌++◌, reverse, [], Option, Some, None}
use Rattle.trace_events.specs.Event.{Event}
use Rattle.trace_log.specs.Logs.{LogState}
use Rattle.trace_log_wrappers.specs.declared.held.HeldBack.{HeldBack}
use Rattle.trace_log_wrappers.specs.Holding.{look_events, round_events, reading_events, written_of, held_back}

-- the log has taken these happenings, after all that it had taken before
abbrev pub AddsHappenings : LogState → LogState → List Event → Type 0
AddsHappenings old new more = (before : List Event) → old.taken before → new.taken (before ++ more)

-- the log has taken a prefix of `more`, after the happenings `before`
pub record Front (taken : List Event → Type 0) (before more : List Event) : Type 0 where
  pub first : List Event
  pub rest : List Event
  pub all : first ++ rest ≡ more
  pub gained : taken (before ++ first)

-- the log has taken a prefix of these happenings, after all that it had taken before
abbrev pub AddsFront : LogState → LogState → List Event → Type 0
AddsFront old new more = (before : List Event) → old.taken before → Front new.taken before more

-- the happenings held back, oldest first
abbrev pub held_first : HeldBack → List Event
held_first held = reading_events held.reading ++ round_events held.round ++ reverse (look_events held.look)

-- the happenings that are written when this happening arrives, oldest first: none if it is held back; otherwise all
-- those held back, followed by this happening unless it is a reading or a round
abbrev pub newly_first_by : Event → HeldBack → Option HeldBack → List Event
newly_first_by happening held None = held_first held ++ written_of happening
newly_first_by happening held (Some next) = []

-- the happenings that are written when this happening arrives, oldest first
abbrev pub newly_first : Event → HeldBack → List Event
newly_first happening held = newly_first_by happening held (held_back happening held)
