-- The message for a fault of a log, and how much of a happening's text is written when the fault occurs.
use Rattle.std.specs.Prelude.{ℕ, List, codes, Option}
use Rattle.std.specs.Io.KnownBytes.{Keeps}
use Rattle.program_io.specs.Writing.{AppendsFront}
use Rattle.trace_log.specs.declared.faults.LogFault.{LogFault}
use Rattle.trace_log.specs.declared.faults.LogFault.TheVariants.{Device, Memory}

-- the message for a fault
abbrev pub fault_text : LogFault → List ℕ
fault_text Device = codes "the log could not be written"
fault_text Memory = codes "out of memory"

-- how much of the text has been written when the fault occurs: a proper prefix for `Device`, nothing for `Memory`
abbrev pub Leaves : LogFault → Option (List ℕ) → Option (List ℕ) → List ℕ → Type 0
Leaves Device old new text = AppendsFront old new text
Leaves Memory old new text = Keeps old new
