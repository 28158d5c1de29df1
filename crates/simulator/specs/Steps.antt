-- How each happening changes the state of the simulated system, and whether it needs memory.
use Rattle.std.specs.Prelude.{ℕ, Bool, true, false, List, Option, is_some}
use Rattle.simulator.specs.Words.{OrderKind, Answer, Asked, NotRead, Birth, NoBirth, Death, Reaped, Still, NoLook, Hit}
use Rattle.simulator.specs.Words.{Miss, Told, Clock, Nudge, Got, Event, act_in, undone_by, answered_by}
use Rattle.trace_events.specs.declared.happenings.Happening.TheVariants.{Handed}
use Rattle.simulator.specs.declared.simulated.SimulatedChild.{SimulatedChild}
use Rattle.simulator.specs.State.{without, with, with_child, with_death, without_child}

-- the happening can come from a script: the system, or the edge between system and init, causes it
abbrev pub is_script : Event → Bool
is_script (Birth id number) = true
is_script (NoBirth id) = true
is_script (Death number) = true
is_script (Reaped id number status) = true
is_script (Still id) = true
is_script (NoLook id) = true
is_script (Hit id) = true
is_script (Miss id) = true
is_script (Told id) = true
is_script (Clock reading) = true
is_script Nudge = true
is_script NotRead = true
is_script (Got request) = true
is_script (Handed how) = true
is_script _ = false

-- recording the happening needs memory: it is an order, or an act on one
abbrev pub needs_memory : Event → Bool
needs_memory (Asked id ask) = true
needs_memory happening = is_some (act_in happening)

-- the id's order not yet carried out after the happening, given the order before it
abbrev pub order_after : Event → List ℕ → Option OrderKind → Option OrderKind
order_after (Asked i ask) id before = with id i ask before
order_after (Told i) id before = without id i before
order_after happening id before = undone_by id (act_in happening) before

-- the answer to the id's order that init has not received yet after the happening, given the one before it
abbrev pub answer_after : Event → List ℕ → Option Answer → Option Answer
answer_after (Told i) id before = without id i before
answer_after happening id before = answered_by id (act_in happening) before

-- the unreaped child with this number after the happening, given the child before it
abbrev pub child_after : Event → ℕ → Option SimulatedChild → Option SimulatedChild
child_after (Birth i n) number before = with_child number n i before
child_after (Death n) number before = with_death number n before
child_after (Reaped i n status) number before = without_child number n before
child_after _ number before = before
