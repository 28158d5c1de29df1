use Rattle.rc_driver.proofs.Words.{sym, ap, ◌∙◌, by_reply, by_start}
use Rattle.rc_driver.proofs.CallLemmas.{begins}
use Rattle.rc_driver.proofs.progress.started.Goals as goal

pub returns-in-Later : goal.returns-in-Later
returns-in-Later g c =
    begins _ _ c.args.limit _ _ _ _ c.start.ensures.adds c.script_id.ensures
    (ap (by_reply (by_start c.args.limit)) (sym c.in-Later.is))

pub returns-in-Now : goal.returns-in-Now
returns-in-Now g c =
    begins _ _ c.args.limit _ _ _ _ c.start.ensures.adds c.script_id.ensures
    (c.by_start.ensures ∙ ap (by_reply (by_start c.args.limit)) (sym c.in-Now.is))
