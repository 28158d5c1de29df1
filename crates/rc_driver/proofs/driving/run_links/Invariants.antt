use Rattle.rc_driver.proofs.Words.{◌≡◌, List, Option, None, false, length, HostCall, NewCallsSatisfy, Output, output}
use Rattle.rc_driver.proofs.Words.{RcState}
use Rattle.rc_driver.proofs.Words.{RunsLinks, RunEnd}
use Rattle.rc_driver.proofs.driving.run_links.Given as goal

-- a run from this point completes a run from the beginning
abbrev pub invariant-loop-ended : goal.invariant-loop-ended
invariant-loop-ended g l = ((ended : RunEnd) (new : RcState) (after : Output) (told : Option (List HostCall))
    → NewCallsSatisfy (g.H.Host.told l.host) told (RunsLinks l.way l.dir l.pauses l.failed l.rc
    (output (g.W.Write.contents l.out) (g.E.Reporter.reports l.err)) ended new after)
    → NewCallsSatisfy (g.H.Host.told l.fn.host) told (RunsLinks l.way l.dir l.limit false l.fn.rc
    (output (g.W.Write.contents l.fn.out) (g.E.Reporter.reports l.fn.err)) ended new after))
    × (l.way.seconds ≡ None → l.err ≡ l.fn.err)

abbrev pub decreases-loop-ended : goal.decreases-loop-ended
decreases-loop-ended g l = length l.rc.remaining
