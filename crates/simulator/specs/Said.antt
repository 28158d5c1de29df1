-- Which happenings a script may contain at each point, and which part of a trace came from the script.
use Rattle.std.specs.Prelude.{◌≡◌, ℕ, Bool, true, ◌&&◌, if◌then◌else◌, List, [], ◌∷◌, length, Option, Some}
use Rattle.simulator.specs.Words.{Entry, NewTable, NotRead, Goal, Event, due, first, is_next, is_reread, may_come}
use Rattle.trace_events.specs.declared.happenings.Happening.TheVariants.{Handed}
use Rattle.simulator.specs.declared.objections.Objection.{Objection}
use Rattle.simulator.specs.declared.objections.Objection.TheVariants as objection
use Rattle.simulator.specs.State.{SystemState}
use Rattle.simulator.specs.Steps.{is_script}
use Rattle.simulator.specs.Objections.{unless, objection_to}
use Rattle.simulator.specs.Follows.{Follows}
use Rattle.simulator.specs.Handing.{made_in, text_at, may_hand, objection_handed}

-- the happening can come from a script: the system or the edge between system and init causes it, or it is a new table
abbrev pub is_scripted : Event → Bool
is_scripted (NewTable table) = true
is_scripted happening = is_script happening

-- The happening may be the next line of a script: it can come from a script, it may come next in a sound trace, and if
-- it is a hand-over, it is possible. A table or `notread` may come only if reading inittab is the first due step.
abbrev pub may_be_scripted : Goal → Event → List Event → Bool
may_be_scripted goal happening past = is_scripted happening && may_hand goal happening past
    && is_next (first (due goal past)) happening && may_come goal happening past

-- the objection to a happening, given whether the next step reads inittab, the number of state texts made, the length
-- of the next one, and the state of the system; none if the happening may come
abbrev pub objection_in : Bool → ℕ → ℕ → SystemState → Event → Option Objection
objection_in rereads made size side (NewTable table) = unless rereads objection.NotNow
objection_in rereads made size side NotRead = unless rereads objection.NotNow
objection_in rereads made size side (Handed how) = objection_handed made size how
objection_in rereads made size side happening = objection_to side happening

-- the objection to a happening after this trace, if `side` is the state of the system
abbrev pub objection_now : Goal → List Event → SystemState → Event → Option Objection
objection_now goal past side happening =
    objection_in (is_reread (first (due goal past))) (made_in past) (length (text_at goal past)) side happening

-- for some state of the system that follows this trace, this is the objection to the happening
abbrev pub IsObjected : Goal → Event → List Event → Objection → Type 0
IsObjected goal happening past why =
    (side : SystemState) × Follows side past × (objection_now goal past side happening ≡ Some why)

-- the table with which a trace begins
abbrev pub first_table : List Event → List Entry
first_table [] = []
first_table (NewTable table ∷ []) = table
first_table (_ ∷ past) = first_table past

-- the happenings of a trace that came from its script, newest first: all that can come from a script, except the first
-- happening of the trace
abbrev pub heard : List Event → List Event
heard [] = []
heard (happening ∷ []) = []
heard (happening ∷ past) = if is_scripted happening then happening ∷ heard past else heard past
