use Rattle.std.proofs.Common.{◌≡◌, ◌++◌, flat_map, ℕ, ◌+◌, ◌<◌, length, List, get_or, drop, arith}
use Rattle.std.proofs.lemmas.Grind.{common_steps}
use Rattle.inittab_text.specs.declared.faults.PartFault.{PartFault}
use Rattle.host_messages.specs.LineFaults.{fault_line}
use Rattle.host_messages.proofs.line_faults.faults_text.Goals as goal

more : (f : PartFault → List ℕ) (faults : List PartFault) (position : ℕ) (d : PartFault) (text new whole : List ℕ)
    → position < length faults → text ++ flat_map f (drop position faults) ≡ whole
    → new ≡ text ++ f (get_or faults position d) → new ++ flat_map f (drop (position + 1) faults) ≡ whole
more f faults position d text new whole below so_far added = grind (arith, common_steps)

pub loop-fault-preserved : goal.loop-fault-preserved
loop-fault-preserved g c =
    more (fault_line c.args.parts.now) c.args.faults.now c.loop-fault.fault-index _ c.loop-fault.text.items
    c.add_fault.new.text.items _
    c.loop-fault-test.true c.loop-fault.invariant c.in_ok-add_fault.ensures
