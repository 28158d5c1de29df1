use Rattle.rc_driver.proofs.PrintLemmas.{prints_more}
use Rattle.rc_driver.proofs.printing.print_links.Goals as goal

pub loop-ended-preserved : goal.loop-ended-preserved
loop-ended-preserved g c = λ ended new after went.
    c.loop-ended.invariant ended new after
    (prints_more c.args.way c.args.dir.now _ _ _ _ _ _ _ (c.print_next.ensures.one c.in_default.is) went)
