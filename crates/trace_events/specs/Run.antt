-- Runs: traces in which init takes the first due step until it rests; any other happening comes only when init rests.
use Rattle.std.specs.Prelude.{Bool, true, false, ◌&&◌, List, [], ◌∷◌, Option, Some, None}
use Rattle.trace_events.specs.Words.{is_distinct}
use Rattle.trace_events.specs.declared.happenings.Happening.TheVariants.{NewTable, NotRead, Enter, Call, Power, Asked}
use Rattle.trace_events.specs.declared.happenings.Happening.TheVariants.{Hold, Settle}
use Rattle.trace_events.specs.declared.steps.Step.{Step}
use Rattle.trace_events.specs.declared.steps.Step.TheVariants as step
use Rattle.trace_events.specs.declared.steps.Goal.{Goal}
use Rattle.trace_events.specs.Event.{Event}
use Rattle.trace_events.specs.Due.{due, first, same_step}
use Rattle.trace_events.specs.Sound.{may_come}

-- init rests: no step is due, or the first due step is to reread inittab or to re-execute init
abbrev pub is_rest : Step → Bool
is_rest step.Idle = true
is_rest step.Reread = true
is_rest step.Reexec = true
is_rest _ = false

abbrev pub is_reread : Step → Bool
is_reread step.Reread = true
is_reread _ = false

-- the step of init that a happening records, if any; a new table is not a step, because it comes from outside
abbrev pub step_in : Event → Option Step
step_in (Enter stage grace) = Some (step.Enter stage grace)
step_in (Call letter) = Some (step.Call letter)
step_in (Power kind) = Some (step.Power kind)
step_in (Asked id ask) = Some (step.Order id ask)
step_in (Hold id) = Some (step.Hold id)
step_in (Settle level) = Some (step.Settle level)
step_in _ = None

-- a step of init must be the first due step; any other happening comes only when init rests
abbrev pub is_next_by : Step → Option Step → Bool
is_next_by due_now None = is_rest due_now
is_next_by due_now (Some taken) = same_step due_now taken

-- the happening may come next in a run whose first due step is this one; a NewTable or NotRead may come only if that
-- step is to reread inittab
abbrev pub is_next : Step → Event → Bool
is_next due_now (NewTable table) = is_reread due_now
is_next due_now NotRead = is_reread due_now
is_next due_now happening = is_next_by due_now (step_in happening)

-- a run: it begins with a table without repeated ids, and each later happening may come next both in a run and in a
-- sound trace
abbrev pub is_run : Goal → List Event → Bool
is_run goal [] = false
is_run goal (NewTable table ∷ []) = is_distinct table
is_run goal (happening ∷ past) =
    is_next (first (due goal past)) happening && may_come goal happening past && is_run goal past
