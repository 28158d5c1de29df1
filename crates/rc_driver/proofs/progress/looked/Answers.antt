use Rattle.rc_driver.proofs.Words.{sym, ap, ◌∙◌, by_look, by_reply}
use Rattle.rc_driver.proofs.CallLemmas.{goes_look}
use Rattle.rc_driver.proofs.progress.looked.Goals as goal

pub returns-in-Later-clause-calls : goal.returns-in-Later-clause-calls
returns-in-Later-clause-calls g c =
    goes_look _ _ c.args.limit _ _ _ c.look.ensures.adds c.script_id.ensures
    (ap (by_reply (by_look c.args.limit)) (sym c.in-Later.is))

pub returns-in-Now-clause-calls : goal.returns-in-Now-clause-calls
returns-in-Now-clause-calls g c =
    goes_look _ _ c.args.limit _ _ _ c.look.ensures.adds c.script_id.ensures
    (c.by_look.ensures ∙ ap (by_reply (by_look c.args.limit)) (sym c.in-Now.is))
