use Rattle.rc_driver.proofs.Words.{List, ℕ, Option, length, PrintsLinks, RcState, RunEnd}
use Rattle.rc_driver.proofs.printing.print_links.Given as goal

-- a dry run from this point completes one from the beginning
abbrev pub invariant-loop-ended : goal.invariant-loop-ended
invariant-loop-ended g l = (ended : RunEnd) (new : RcState) (after : Option (List ℕ))
    → PrintsLinks l.way l.dir l.rc (g.W.Write.contents l.out) ended new after
    → PrintsLinks l.way l.dir l.fn.rc (g.W.Write.contents l.fn.out) ended new after

abbrev pub decreases-loop-ended : goal.decreases-loop-ended
decreases-loop-ended g l = length l.rc.remaining
