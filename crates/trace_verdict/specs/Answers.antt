-- The verdict on the text of a trace, and when it is right.
use Rattle.std.specs.Prelude.{◌≡◌, ℕ, ◌+◌, ◌<◌, List, [], length, take, reverse, slice_get, Option, Some, None}
use Rattle.std.specs.Option.{option_map_or}
use Rattle.text_lines.specs.Lines.{newlines}
use Rattle.trace_events.specs.Event.{Event}
use Rattle.trace_events.specs.Lawful.{first_breach}
use Rattle.trace_text.specs.Lines.{event_text, trace_text}
use Rattle.trace_check.specs.declared.laws.Law.{Law}
use Rattle.trace_check.specs.Faults.{fault_at}
use Rattle.trace_verdict.specs.declared.findings.Finding.{Finding}
use Rattle.trace_verdict.specs.declared.findings.Finding.TheVariants.{Lawful, Breach, Torn}
use Rattle.trace_verdict.specs.Fronts.{IsFront, IsTorn}

-- a breach: the position of the happening in the trace, counted from 0; the lowest-numbered law that it breaks; its
-- line in the text, counted from 1; and its text
pub record Named : Type 0 where
  pub position : ℕ
  pub law : Law
  pub line : ℕ
  pub text : List ℕ

-- the breach is the first one of the trace
pub record IsFirst (trace : List Event) (breach : Named) : Type 0 where
  pub first : first_breach (reverse trace) ≡ Some (fault_at breach.position breach.law)
  pub within : breach.position < length trace
  pub line : breach.line ≡ newlines (trace_text (take breach.position trace)) + 1
  pub text : breach.text ≡ option_map_or event_text (slice_get trace breach.position) []

-- The answer to a text is right; it consists of the verdict, the line at which an incomplete last happening begins, and
-- the number of complete happenings. Either the text is torn at a line, or the verdict is the one on the complete
-- happenings.
abbrev pub Answers : List ℕ → Finding Named → Option ℕ → ℕ → Type 0
Answers text Lawful open_line count = (trace : List Event) × IsFront trace open_line text
    × (first_breach (reverse trace) ≡ None) × (count ≡ length trace)
Answers text (Breach breach) open_line count = (trace : List Event) × IsFront trace open_line text
    × IsFirst trace breach × (count ≡ length trace)
Answers text (Torn number) open_line count = IsTorn text number × (open_line ≡ None)
