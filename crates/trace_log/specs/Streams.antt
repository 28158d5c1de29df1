-- The state of a log that writes to a writer: the bytes written show which happenings the log has taken.
use Rattle.std.specs.Prelude.{◌≡◌, ◌<◌, ℕ, Bool, true, false, List, [], ◌++◌, length, Option, Some, None}
use Rattle.trace_events.specs.Event.{Event}
use Rattle.trace_events.specs.Range.{is_in_range, are_in_range}
use Rattle.trace_text.specs.Lines.{event_text, trace_text}
use Rattle.trace_log.specs.Logs.{LogState}

-- a log that writes to a writer: the writer, and whether the log has failed
pub record Stream (W : Type 0) : Type 0 where
  pub writer : W
  pub failed : Bool

-- a proper prefix of the text of some happening whose numbers are in range
pub record IsCut (part : List ℕ) : Type 0 where
  pub happening : Event
  pub rest : List ℕ
  pub ranged : is_in_range happening ≡ true
  pub joined : part ++ rest ≡ event_text happening
  pub short : 0 < length rest

-- The bytes are the text of the trace, whose numbers are in range. If the log has failed, they are followed by a proper
-- prefix, possibly empty, of the text of the happening that the log failed to take.
pub record HasText (failed : Bool) (trace : List Event) (bytes : List ℕ) : Type 0 where
  pub ranged : are_in_range trace ≡ true
  pub part : List ℕ
  pub whole : trace_text trace ++ part ≡ bytes
  pub nothing : failed ≡ false → part ≡ []
  pub cut : failed ≡ true → IsCut part

-- the writer's bytes are known, and satisfy `HasText`
abbrev pub KnowsText : Bool → List Event → Option (List ℕ) → Type 0
KnowsText failed trace None = ⊥
KnowsText failed trace (Some bytes) = HasText failed trace bytes

-- the state of the log as contracts see it: it has taken the happenings whose text its writer is known to have
abbrev pub stream_state : {W : Type 0} → (W → Option (List ℕ)) → Stream W → LogState
stream_state contents log =
    record { taken = λ trace. KnowsText log.failed trace (contents log.writer); failed = log.failed; noted = None }
