-- The reader of a text that arrives in pieces.
use Rattle.std.specs.Prelude.{◌≡◌, ℕ, ◌+◌, ◌-◌, ◌^◌, ◌≤◌, min, true, List, ◌++◌, drop, length, Option, Some, None}
use Rattle.trace_text.specs.declared.reading.ReadFault.{ReadFault}
use Rattle.trace_text.specs.declared.reading.ReadFault.TheVariants as fault
use Rattle.trace_events.specs.Event.{Event}
use Rattle.trace_text.specs.Lines.{event_text}
use Rattle.trace_events.specs.Range.{is_in_range}
use Rattle.trace_text.specs.Texts.{line_count}
use Rattle.trace_verdict.specs.Fronts.{is_open, BeginsNever}

-- the unread part, and the number of lines read, at most 2^64 - 1
pub record Reading : Type 0 where
  pub over : List ℕ
  pub lines : ℕ

-- the sum, or 2^64 - 1 if it is greater
abbrev pub capped : ℕ → ℕ
capped sum = min sum (2 ^ 64 - 1)

-- the unread part begins with this happening, whose text has this length; or, for none, it ends within a happening
abbrev pub IsNext : Reading → Option (Event × ℕ) → Type 0
IsNext reading None = is_open reading.over ≡ true
IsNext reading (Some found) =
    (is_in_range found.0 ≡ true) × (event_text found.0 ++ drop found.1 reading.over ≡ reading.over)
    × (found.1 ≤ length reading.over)

-- the reader has read the next happening and counted its lines; or, for none, the unread part ends within a happening
-- and the reader is unchanged
abbrev pub ReadsNext : Reading → Reading → Option Event → Type 0
ReadsNext old new None = (new ≡ old) × (is_open old.over ≡ true)
ReadsNext old new (Some happening) =
    (is_in_range happening ≡ true) × (event_text happening ++ new.over ≡ old.over)
    × (new.lines ≡ capped (old.lines + line_count happening))

-- the unread part cannot be the beginning of a happening, whatever text follows; the fault names the line at which the
-- unread part begins
abbrev pub ReadsNone : Reading → ReadFault → Type 0
ReadsNone old (fault.Line number) =
    (number ≡ capped (old.lines + 1)) × BeginsNever old.over
ReadsNone old fault.Memory = Unit {0}
