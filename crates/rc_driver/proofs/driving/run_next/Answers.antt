use Rattle.rc_driver.proofs.ToldLemmas.{advanced, runs_done, runs_ends, runs_waiting}
use Rattle.rc_driver.proofs.driving.run_next.Goals as goal

pub returns-in-Ok-answer-clause-one : goal.returns-in-Ok-answer-clause-one
returns-in-Ok-answer-clause-one g c = λ is.
    advanced _ _ _ _ _ _ _ _ c.args.rc.now c.next.new.self c.answer.new.self _ _
    (c.in-Run.link.now, c.in-Run.arg) c.in-Ok.answer c.in-Run.ensures.0 c.in-Run.ensures.1 c.in-Ok-answer.ensures.ok.1
    c.failed_by.ensures c.in-Ok.ensures.ran c.in-Ok.ensures.ok

pub returns-in-Err-clause-last : goal.returns-in-Err-clause-last
returns-in-Err-clause-last g c =
    runs_ends _ _ _ _ _ _ c.args.rc.now c.next.new.self _ _ _
    (c.in-Run.link.now, c.in-Run.arg) c.in-Run.ensures.0 c.in-Run.ensures.1 c.in-Run.ensures.2 c.in-Err.ensures.ends

pub returns-in-Waiting-clause-last : goal.returns-in-Waiting-clause-last
returns-in-Waiting-clause-last g c = runs_waiting _ _ _ _ _ c.args.rc.now _ _ c.in-Waiting.ensures

pub returns-in-Done-clause-last : goal.returns-in-Done-clause-last
returns-in-Done-clause-last g c = runs_done _ _ _ _ _ c.args.rc.now _ _ _ c.in-Done.ensures c.done_end.ensures
