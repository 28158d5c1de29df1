use Rattle.rc_driver.proofs.CallLemmas.{goes_pause}
use Rattle.rc_driver.proofs.progress.paused.Goals as goal

pub returns : goal.returns
returns g c = goes_pause _ _ _ _ _ _ _ c.pause.ensures.adds c.late.ensures.adds c.requires c.by_late.ensures
