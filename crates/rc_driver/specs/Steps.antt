-- One step of a run of scripts.
use Rattle.std.specs.Prelude.{◌≡◌, true, false, [], ◌∷◌}
use Rattle.rc_driver.specs.declared.runs.RcStep.{RcStep}
use Rattle.rc_driver.specs.declared.runs.RcStep.TheVariants as step
use Rattle.rc_driver.specs.Runs.{RcState}

-- the step returns the first remaining script; it returns none while the previous script has no answer, and after the
-- last script
abbrev pub Steps : RcState → RcStep → RcState → Type 0
Steps old (step.Run link given) new =
    (old.waits ≡ false) × (old.remaining ≡ (link.now, given) ∷ new.remaining) × (new.waits ≡ true)
Steps old step.Waiting new = (old.waits ≡ true) × (new ≡ old)
Steps old step.Done new = (old.waits ≡ false) × (old.remaining ≡ []) × (new ≡ old)
