-- Properties that the brief form of a trace preserves: the lasting happenings, the first law broken, and the values
-- that functions such as `time_of` derive from the trace. Also, when the looks of a trace are free.
use Rattle.std.specs.Prelude.{◌≡◌, ℕ, Bool, IsTrue, true, false, not, ◌&&◌, List, [], ◌∷◌, filter, Option, Some, None}
use Rattle.std.specs.Prelude.{is_none}
use Rattle.init_words.specs.declared.orders.OrderKind.TheVariants.{Look}
use Rattle.trace_events.specs.declared.happenings.Happening.TheVariants.{Asked, Still, Told, Clock, Nudge}
use Rattle.trace_events.specs.declared.steps.Goal.{Goal}
use Rattle.trace_events.specs.Event.{Event}
use Rattle.trace_events.specs.Past.{open_of, is_untold}
use Rattle.trace_events.specs.Sound.{is_sound}
use Rattle.trace_events.specs.Lawful.{Fault, first_breach}
use Rattle.trace_log_wrappers.specs.Brief.{brief_of}

-- the happening is never omitted: it is not a look that found nothing, nor the order of a look, a `told`, a reading of
-- the clock or a round
abbrev pub is_lasting : Event → Bool
is_lasting (Asked i Look) = false
is_lasting (Still i) = false
is_lasting (Told i) = false
is_lasting (Clock reading) = false
is_lasting Nudge = false
is_lasting _ = true

-- the lasting happenings of a trace
abbrev pub lasting_events : List Event → List Event
lasting_events past = filter is_lasting past

-- the looks of a trace are free: init ordered each look when the id had no open order and init had learned of all acts
-- for the id
abbrev pub are_looks_free : List Event → Bool
are_looks_free [] = true
are_looks_free (Asked id Look ∷ past) = is_none (open_of id past) && not (is_untold id past) && are_looks_free past
are_looks_free (_ ∷ past) = are_looks_free past

-- the law that a fault breaks
abbrev pub law_broken_by : Option Fault → Option ℕ
law_broken_by None = None
law_broken_by (Some fault) = Some fault.law

-- the law that the first breach of a trace breaks
abbrev pub first_broken : List Event → Option ℕ
first_broken trace = law_broken_by (first_breach trace)

-- the function has the same value for each sound trace and for its brief form
abbrev pub ReadsSame : {X : Type 0} → (List Event → X) → Type 0
ReadsSame reading =
    (goal : Goal) (trace : List Event) → IsTrue (is_sound goal trace) → reading trace ≡ reading (brief_of trace)
