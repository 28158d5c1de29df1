use Rattle.inittab_text.proofs.Words.{◌≡◌, ◌++◌, map, drop, in_part}
use Rattle.inittab_text.proofs.parts.add_faults.Given as goal

abbrev pub invariant-loop-fault : goal.invariant-loop-fault
invariant-loop-fault g l = l.faults.items ++ map (in_part l.part) (drop l.fault-index l.found)
    ≡ l.fn.faults.items ++ map (in_part l.part) l.found
