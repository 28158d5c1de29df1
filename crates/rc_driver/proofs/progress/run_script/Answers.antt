use Rattle.rc_driver.proofs.Words.{refl, arith, ◌-◌, ◌∙◌}
use Rattle.rc_driver.proofs.CallLemmas.{gone_further, gone_on}
use Rattle.rc_driver.proofs.progress.run_script.Goals as goal

pub loop-progress-preserved-in-Born : goal.loop-progress-preserved-in-Born
loop-progress-preserved-in-Born g c =
    let still = c.loop-progress.pauses in (
      gone_further _ _ _ _ _ _ _ _ _ _ _ still still c.in-Born.is
          (omega arith) c.loop-progress.invariant.0 c.looked-progress.ensures.calls,
      c.loop-progress.invariant.1,
      c.loop-progress.invariant.2,
    )

pub loop-progress-preserved-in-Found : goal.loop-progress-preserved-in-Found
loop-progress-preserved-in-Found g c =
    let still = c.loop-progress.pauses in (
      gone_on _ _ _ _ _ _ _ _ _ _ _ _ still still c.in-Found.is
          (omega arith) c.loop-progress.invariant.0 c.timed.ensures.calls,
      c.timed.ensures.told _ c.loop-progress.invariant.1,
      (λ none. c.timed.ensures.silent none ∙ c.loop-progress.invariant.2 none),
    )

pub loop-progress-preserved : goal.loop-progress-preserved
loop-progress-preserved g c =
    let still = c.loop-progress.pauses in (
      gone_further _ _ _ _ _ _ _ _ _ _ _ still (still - 1) refl
          (omega (arith, c.if-pauses-eq0.false)) c.loop-progress.invariant.0 c.paused-progress.ensures,
      c.loop-progress.invariant.1,
      c.loop-progress.invariant.2,
    )
