-- Sound traces: what init may do, what the system may do, and what each may learn from the other. The seven laws hold
-- for every sound trace.
use Rattle.std.specs.Prelude.{Bool, true, false, not, ◌&&◌, ◌||◌, List, [], ◌∷◌}
use Rattle.std.specs.List.{list_any}
use Rattle.trace_events.specs.Words.{Start, Look, Term, Kill, is_distinct}
use Rattle.trace_events.specs.declared.happenings.Happening.TheVariants.{NewTable, NotRead, Enter, Call, Power, Asked}
use Rattle.trace_events.specs.declared.happenings.Happening.TheVariants.{Hold, Settle, Birth, NoBirth, Death, Reaped}
use Rattle.trace_events.specs.declared.happenings.Happening.TheVariants.{Still, NoLook, Hit, Miss, Told, Clock, Nudge}
use Rattle.trace_events.specs.declared.happenings.Happening.TheVariants.{Got, Handed}
use Rattle.trace_events.specs.declared.steps.Step.TheVariants as step
use Rattle.trace_events.specs.declared.steps.Goal.{Goal}
use Rattle.trace_events.specs.Event.{Event}
use Rattle.trace_events.specs.Past.{is_child, has_number, is_dead, is_living, undone_of, is_untold, is_quiet}
use Rattle.trace_events.specs.Past.{unreaped_children}
use Rattle.trace_events.specs.Wanted.{is_order}
use Rattle.trace_events.specs.Due.{is_due}

-- The happening may come next. Init takes a step only if the step is due. It adopts a table only at a quiet point, and
-- only if no id in the table is repeated. The outcome of a start needs an undone Start of the id, the outcome of a look
-- an undone Look, and the outcome of a signal an undone Term or Kill. A newborn child never has the number of an
-- unreaped one, only a living child dies, and a look reaps only a dead child of its id. A Told needs an act for its id
-- that init has not learned of. A failure to read inittab, a clock reading, a round, a request, and a hand-over may
-- come at any time.
abbrev pub may_come : Goal → Event → List Event → Bool
may_come goal (NewTable table) past = is_quiet past && is_distinct table
may_come goal (Enter stage grace) past = is_due goal (step.Enter stage grace) past
may_come goal (Call letter) past = is_due goal (step.Call letter) past
may_come goal (Power kind) past = is_due goal (step.Power kind) past
may_come goal (Asked id ask) past = is_due goal (step.Order id ask) past
may_come goal (Hold id) past = is_due goal (step.Hold id) past
may_come goal (Settle level) past = is_due goal (step.Settle level) past
may_come goal (Birth id number) past =
    is_order Start (undone_of id past) && not (list_any (has_number number) (unreaped_children past))
may_come goal (NoBirth id) past = is_order Start (undone_of id past)
may_come goal (Death number) past = is_living number past
may_come goal (Reaped id number status) past =
    is_order Look (undone_of id past) && list_any (is_child id number) (unreaped_children past)
    && is_dead id number past
may_come goal (Still id) past = is_order Look (undone_of id past)
may_come goal (NoLook id) past = is_order Look (undone_of id past)
may_come goal (Hit id) past = is_order Term (undone_of id past) || is_order Kill (undone_of id past)
may_come goal (Miss id) past = is_order Term (undone_of id past) || is_order Kill (undone_of id past)
may_come goal (Told id) past = is_untold id past
may_come goal NotRead past = true
may_come goal (Clock reading) past = true
may_come goal Nudge past = true
may_come goal (Got request) past = true
may_come goal (Handed how) past = true

-- a sound trace begins with a table without repeated ids, and each later happening is one that may come next
abbrev pub is_sound : Goal → List Event → Bool
is_sound goal [] = false
is_sound goal (NewTable table ∷ []) = is_distinct table
is_sound goal (happening ∷ past) = may_come goal happening past && is_sound goal past
