-- The record that an edge keeps: each call to its host, with the state of its log at that moment, newest call first.
use Rattle.std.specs.Prelude.{◌≡◌, false, IsTrue, List, [], ◌∷◌, map, reverse, Option, Some, None, IfSome}
use Rattle.std.specs.Option.{option_map}
use Rattle.init_words.specs.declared.orders.OrderKind.TheVariants as ask
use Rattle.supervisor.specs.EdgeWords.{Asked, Goal, Event, LogState, Start, Look, Signal, Announce, HostCall}
use Rattle.supervisor.specs.Point.{Point, announced, order_for, point_after}
use Rattle.supervisor.specs.CallsLead.{Took, IfPossibleFrom, are_seconds_short}

-- a call with its answer, and the log when the call was made
pub record Made (L : Type 0) : Type 0 where
  pub call : HostCall
  pub log : L

-- the calls, without the logs
abbrev pub calls_of : {L : Type 0} → List (Made L) → List HostCall
calls_of [] = []
calls_of (made ∷ made_calls) = made.call ∷ calls_of made_calls

-- an edge: a host, a log, and the calls so far, if the host records them
pub record EdgeState (H L : Type 0) : Type 0 where
  pub host : H
  pub log : L
  pub told : Option (List (Made L))

-- if the edge records its calls now, it recorded them before, and has added this call with this log
abbrev pub AddsStamped : {L : Type 0} → Option (List (Made L)) → Option (List (Made L)) → HostCall → L → Type 0
AddsStamped old new call log = IfSome new (λ all. (before : List (Made _)) × (old ≡ Some before)
    × (all ≡ record { call = call; log = log } ∷ before))

-- the calls that a host records, each stamped with this log
abbrev pub first_told : {L : Type 0} → Option (List HostCall) → L → Option (List (Made L))
first_told calls log = option_map (map (λ call. record { call = call; log = log })) calls

-- the record with the host's newest call added, stamped with this log
abbrev pub newest_told : {L : Type 0} → Option (List HostCall) → L → Option (List (Made L)) → Option (List (Made L))
newest_told (Some (call ∷ calls)) log told =
    option_map (λ made_calls. record { call = call; log = log } ∷ made_calls) told
newest_told _ log told = None

-- The trace when a call is made, given the trace before: it has the order that the call carries out, or the happening
-- that the call announces.
abbrev pub trace_at : HostCall → List Event → List Event
trace_at (Start id command reply) past = Asked id ask.Start ∷ past
trace_at (Look id reply) past = Asked id ask.Look ∷ past
trace_at (Signal id sent reply) past = Asked id (order_for sent) ∷ past
trace_at (Announce happening) past = announced happening past
trace_at _ past = past

-- if the answers to the earlier calls were possible, then when init made this call, the log had accepted everything
-- since `from`, including the order that the call carries out, or had failed
abbrev pub KeptAt : (Point → List Event) → (Goal → Point → Type 0) → LogState → LogState → HostCall → List HostCall
    → Type 0
KeptAt from fitted old now call = IfPossibleFrom fitted (λ goal p earlier. IsTrue (are_seconds_short goal p.past)
    → Took old now (from p) (trace_at call (point_after earlier p).past))

-- `KeptAt` holds for each call
abbrev pub Kept : {L : Type 0} → (L → LogState) → (Point → List Event) → (Goal → Point → Type 0) → LogState
    → List (Made L) → Type 0
Kept state from fitted old [] = Unit {0}
Kept state from fitted old (made ∷ earlier) =
    KeptAt from fitted old (state made.log) made.call (calls_of earlier) × Kept state from fitted old earlier

-- if the answers to the earlier calls were possible, then when init made this call, the log had accepted the whole
-- trace so far, including the order that the call carries out, or had failed
abbrev pub HadTaken : (Goal → Point → Type 0) → LogState → HostCall → List HostCall → Type 0
HadTaken fitted log call = IfPossibleFrom fitted (λ goal p earlier. IsTrue (are_seconds_short goal p.past)
    → log.failed ≡ false → log.taken (reverse (trace_at call (point_after earlier p).past)))

-- `HadTaken` holds for each call
abbrev pub HadEach : {L : Type 0} → (L → LogState) → (Goal → Point → Type 0) → List (Made L) → Type 0
HadEach state fitted [] = Unit {0}
HadEach state fitted (made ∷ earlier) =
    HadTaken fitted (state made.log) made.call (calls_of earlier) × HadEach state fitted earlier

-- init made these calls, and at each, the log had accepted the whole trace so far, as `HadTaken` states
pub record HadAll {L : Type 0} (state : L → LogState) (fitted : Goal → Point → Type 0) (calls : List HostCall)
    : Type 0 where
  pub made_calls : List (Made L)
  pub same : calls_of made_calls ≡ calls
  pub had : HadEach state fitted made_calls
