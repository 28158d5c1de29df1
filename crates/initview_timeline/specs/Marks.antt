-- The marks of a timeline: the events of a trace that it shows, with their times by the trace's clock.
use Rattle.std.specs.Prelude.{ℕ, List, [], ◌∷◌, ◌++◌, Option, Some, None}
use Rattle.init_words.specs.declared.orders.OrderKind.{OrderKind}
use Rattle.init_words.specs.declared.orders.OrderKind.TheVariants as ask
use Rattle.init_words.specs.declared.orders.SignalKind.TheVariants as sig
use Rattle.trace_events.specs.declared.happenings.Happening.TheVariants.{NewTable, Enter, Settle, Hold, Birth, NoBirth}
use Rattle.trace_events.specs.declared.happenings.Happening.TheVariants.{Reaped, Hit, Clock}
use Rattle.trace_events.specs.Event.{Event}
use Rattle.trace_events.specs.Past.{open_of, time_of}
use Rattle.initview_timeline.specs.declared.marks.Shown.{Shown}
use Rattle.initview_timeline.specs.declared.marks.Shown.TheVariants as shown
use Rattle.initview_timeline.specs.declared.marks.TimelineMark.{TimelineMark}

-- the event for a signal that was sent for this order, if the order is for a signal
abbrev pub sent_for : List ℕ → Option OrderKind → Option Shown
sent_for id (Some ask.Term) = Some (shown.Sent id sig.Term)
sent_for id (Some ask.Kill) = Some (shown.Sent id sig.Kill)
sent_for id _ = None

-- the event that the timeline shows for a happening after this past, if any
abbrev pub shown_of : Event → List Event → Option Shown
shown_of (NewTable table) past = Some shown.Read
shown_of (Enter stage grace) past = Some (shown.Entered stage)
shown_of (Settle level) past = Some (shown.Settled level)
shown_of (Hold id) past = Some (shown.Held id)
shown_of (Birth id number) past = Some (shown.Born id number)
shown_of (NoBirth id) past = Some (shown.NotBorn id)
shown_of (Reaped id number status) past = Some (shown.Ended id number status)
shown_of (Hit id) past = sent_for id (open_of id past)
shown_of _ past = None

-- the mark for an event, if there is one
abbrev pub mark_at : ℕ → Option Shown → List TimelineMark
mark_at time None = []
mark_at time (Some what) = record { time = time; what = what } ∷ []

-- the marks of a past, oldest first
abbrev pub marks_of : List Event → List TimelineMark
marks_of [] = []
marks_of (happening ∷ past) = marks_of past ++ mark_at (time_of (happening ∷ past)) (shown_of happening past)

-- the first reading of the clock after one more happening
abbrev pub start_after : Option ℕ → Event → Option ℕ
start_after None (Clock time) = Some time
start_after start _ = start

-- the first reading of the clock in a past
abbrev pub start_of : List Event → Option ℕ
start_of [] = None
start_of (happening ∷ past) = start_after (start_of past) happening

-- the data that a timeline keeps about a past: its marks, and the first reading of the clock
pub record SeenMarks : Type 0 where
  pub marks : List TimelineMark
  pub start : Option ℕ

abbrev pub seen_of : List Event → SeenMarks
seen_of past = record { marks = marks_of past; start = start_of past }
