-- The state of a log in memory: the happenings that it has taken are those in its list.
use Rattle.std.specs.Prelude.{◌≡◌, Bool, List, None}
use Rattle.trace_events.specs.Event.{Event}
use Rattle.trace_log.specs.Logs.{LogState}

-- a log in memory: its list, oldest first, and whether it has failed
pub record Listed : Type 0 where
  pub list : List Event
  pub failed : Bool

-- the state of a log in memory as contracts see it: it has taken the happenings in its list
abbrev pub list_state : Listed → LogState
list_state log = record { taken = λ trace. log.list ≡ trace; failed = log.failed; noted = None }
