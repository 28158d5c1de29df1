use Rattle.std.proofs.Common.{◌≡◌, ◌++◌, drop}
use Rattle.host_messages.specs.LineFaults.{faults_text}
use Rattle.host_messages.proofs.line_faults.faults_text.Given as goal

-- the text so far and that of the remaining faults are the whole text
abbrev pub invariant-loop-fault : goal.invariant-loop-fault
invariant-loop-fault g l =
    l.text.items ++ faults_text l.parts (drop l.fault-index l.faults) ≡ faults_text l.parts l.faults
