-- Traces in which each step of init is the first due one, whatever the system does between two steps.
use Rattle.std.specs.Prelude.{Bool, true, false, ◌&&◌, List, [], ◌∷◌, Option, Some, None}
use Rattle.trace_laws.specs.Words.{is_distinct, NewTable, Step, Goal, Event, due, first, same_step, may_come}
use Rattle.trace_events.specs.Run.{step_in}

-- init took no step, or took the step that is due
abbrev pub is_own_step : Step → Option Step → Bool
is_own_step due_now None = true
is_own_step due_now (Some taken) = same_step due_now taken

-- the happening is not a step of init, or it is the step that is due
abbrev pub keeps_order : Step → Event → Bool
keeps_order due_now happening = is_own_step due_now (step_in happening)

-- the trace begins with a table; each later happening is one that may come next, and each step of init is the first due
abbrev pub is_orderly : Goal → List Event → Bool
is_orderly goal [] = false
is_orderly goal (NewTable table ∷ []) = is_distinct table
is_orderly goal (happening ∷ past) =
    keeps_order (first (due goal past)) happening && may_come goal happening past && is_orderly goal past
