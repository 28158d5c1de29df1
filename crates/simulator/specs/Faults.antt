-- The faults that end a run before its script ends: the message for each, and how much of a text was already written.
use Rattle.std.specs.Prelude.{ℕ, List, ◌++◌, codes, decimal, Option}
use Rattle.simulator.specs.Words.{AppendsFront, AppendsPrefix}
use Rattle.simulator.specs.declared.running.SimFault.{SimFault}
use Rattle.simulator.specs.declared.running.SimFault.TheVariants.{Table, Script, Forbidden, Write, Memory}

-- the message for a fault
abbrev pub fault_text : SimFault → List ℕ
fault_text Table = codes "the inittab is longer than 1,048,576 bytes"
fault_text (Script line) = codes "script line " ++ decimal line ++ codes " is not a line"
fault_text (Forbidden line why) = codes "script line " ++ decimal line ++ codes " is not allowed"
fault_text Write = codes "the trace could not be written"
fault_text Memory = codes "out of memory"

-- the part of a text that was written before the fault: a proper prefix for `Write`, any prefix for `Memory`
abbrev pub Leaves : SimFault → Option (List ℕ) → Option (List ℕ) → List ℕ → Type 0
Leaves Write old new text = AppendsFront old new text
Leaves Memory old new text = AppendsPrefix old new text
Leaves _ old new text = ⊥
