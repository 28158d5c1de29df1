-- Why a happening may not come next, according to the state of the simulated system.
use Rattle.std.specs.Prelude.{ℕ, Bool, ◌||◌, if◌then◌else◌, List, ◌++◌, codes, decimal, Option, Some, None, is_none}
use Rattle.std.specs.Prelude.{is_some}
use Rattle.init_words.specs.declared.orders.OrderKind.TheVariants.{Start, Look, Term, Kill}
use Rattle.simulator.specs.Words.{NewTable, NotRead, Birth, NoBirth, Death, Reaped, Still, NoLook, Hit, Miss, Told}
use Rattle.simulator.specs.Words.{Clock, Nudge, Got, Event, is_order}
use Rattle.trace_events.specs.declared.happenings.Happening.TheVariants.{Handed}
use Rattle.simulator.specs.declared.objections.Objection.{Objection}
use Rattle.simulator.specs.declared.objections.Objection.TheVariants as objection
use Rattle.simulator.specs.State.{SystemState, order_in, answer_in, child_in, is_living_in, is_dead_in}

-- the objection, unless the test holds
abbrev pub unless : Bool → Objection → Option Objection
unless holds given = if holds then None else Some given

-- the first reason why the happening may not come next in a script, according to the state; none if it may
abbrev pub objection_to : SystemState → Event → Option Objection
objection_to side (Birth id number) =
    if is_order Start (order_in id side) then unless (is_none (child_in number side)) (objection.NumberTaken number)
    else Some (objection.NoStart id)
objection_to side (NoBirth id) = unless (is_order Start (order_in id side)) (objection.NoStart id)
objection_to side (Death number) = unless (is_living_in number side) (objection.NoneLiving number)
objection_to side (Reaped id number status) =
    if is_order Look (order_in id side) then unless (is_dead_in id number side) (objection.NoneDead id number)
    else Some (objection.NoLook id)
objection_to side (Still id) = unless (is_order Look (order_in id side)) (objection.NoLook id)
objection_to side (NoLook id) = unless (is_order Look (order_in id side)) (objection.NoLook id)
objection_to side (Hit id) =
    unless (is_order Term (order_in id side) || is_order Kill (order_in id side)) (objection.NoSignal id)
objection_to side (Miss id) =
    unless (is_order Term (order_in id side) || is_order Kill (order_in id side)) (objection.NoSignal id)
objection_to side (Told id) = unless (is_some (answer_in id side)) (objection.NothingDone id)
objection_to side NotRead = None
objection_to side (Clock reading) = None
objection_to side Nudge = None
objection_to side (Got request) = None
objection_to side (NewTable table) = Some objection.NotNow
objection_to side (Handed how) = None
objection_to side _ = Some objection.OwnStep

-- the message for an objection
abbrev pub objection_text : Objection → List ℕ
objection_text (objection.NoStart id) = codes "no start of " ++ id ++ codes " is open"
objection_text (objection.NoLook id) = codes "no look of " ++ id ++ codes " is open"
objection_text (objection.NoSignal id) = codes "no term or kill of " ++ id ++ codes " is open"
objection_text (objection.NumberTaken number) = codes "an unreaped child has the number " ++ decimal number
objection_text (objection.NoneLiving number) = codes "no living child has the number " ++ decimal number
objection_text (objection.NoneDead id number) = id ++ codes " has no dead child with the number " ++ decimal number
objection_text (objection.NothingDone id) = codes "there is nothing to tell of " ++ id
objection_text objection.OwnStep = codes "this is a step of init itself"
objection_text objection.NotNow = codes "init is not reading the inittab now"
objection_text (objection.NotCut bytes) = codes "the state text has no more than " ++ decimal bytes ++ codes " bytes"
objection_text (objection.NoneOlder generation) =
    codes "no state text of generation " ++ decimal generation ++ codes " was written"
objection_text objection.Worn = codes "no generation number is left"
