-- Which program writes a trace, and the current state of a trace.
use Rattle.std.specs.Prelude.{◌≡◌, ℕ, ◌+◌, ◌-◌, ◌^◌, min, List, ◌∷◌, Option, None, IfSome}
use Rattle.initview_command.specs.Words.{Clock, Event, time_of, ViewEnd}
use Rattle.initview_command.specs.declared.growing.Writer.{Writer}
use Rattle.initview_command.specs.declared.growing.Writer.TheVariants.{Init}

-- the writer of the trace at each path, if known
abbrev pub KnownWriters : Type 0
KnownWriters = List ℕ → Option Writer

-- if the writer of the trace at the path is known, this is the writer
abbrev pub IsWriterAt : KnownWriters → List ℕ → Writer → Type 0
IsWriterAt writers path writer = IfSome (writers path) (λ known. writer ≡ known)

-- the past in the current state of a trace: if an init writes the trace and the trace was read to its end, the clock
-- has advanced by the seconds since the last write to the file, up to 2^64 - 1
abbrev pub present : Writer → Option ViewEnd → List Event → List Event
present (Init seconds) None past = Clock (min (time_of past + seconds) (2 ^ 64 - 1)) ∷ past
present writer stop past = past
