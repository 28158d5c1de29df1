use Rattle.rc_driver.proofs.Words.{◌≡◌, None, ◌*◌, ◌+◌, cond, NewCallsSatisfy, GoneTo, is_born, is_found, Tells}
use Rattle.rc_driver.proofs.Words.{time_lines}
use Rattle.rc_driver.proofs.progress.run_script.Given as goal

abbrev pub invariant-loop-progress : goal.invariant-loop-progress
invariant-loop-progress g l =
    NewCallsSatisfy (g.H.Host.told l.fn.host) (g.H.Host.told l.host)
    (GoneTo l.way.seconds l.command l.progress l.timer l.fn.pauses l.pauses)
    × Tells (g.E.Reporter.reports l.fn.err) (g.E.Reporter.reports l.err) (time_lines l.way l.dir l.link l.timer)
    × (l.way.seconds ≡ None → l.err ≡ l.fn.err)

-- each round uses up a pause, or a look that is due, or a check of the running time
abbrev pub decreases-loop-progress : goal.decreases-loop-progress
decreases-loop-progress g l = 3 * l.pauses + (cond (is_born l.progress) 2 0 + cond (is_found l.progress) 1 0)
