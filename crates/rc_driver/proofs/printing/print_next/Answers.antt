use Rattle.rc_driver.proofs.PrintLemmas.{printed_by, prints_done, prints_stops, prints_waiting}
use Rattle.rc_driver.proofs.printing.print_next.Goals as goal

pub returns-in-Ok-answer-clause-one : goal.returns-in-Ok-answer-clause-one
returns-in-Ok-answer-clause-one g c = λ is.
    printed_by c.args.way c.args.dir.now c.args.rc.now c.next.new.self c.answer.new.self _ _
    (c.in-Run.link.now, c.in-Run.arg) c.in-Run.ensures.0 c.in-Run.ensures.1 c.in-Ok-answer.ensures.ok.1
    c.in-Ok.ensures.ok

pub returns-in-Err-clause-last : goal.returns-in-Err-clause-last
returns-in-Err-clause-last g c =
    prints_stops c.args.way c.args.dir.now c.args.rc.now c.next.new.self _ _ _
    (c.in-Run.link.now, c.in-Run.arg) c.in-Run.ensures.0 c.in-Run.ensures.1 c.in-Err.ensures.err

pub returns-in-Waiting-clause-last : goal.returns-in-Waiting-clause-last
returns-in-Waiting-clause-last g c = prints_waiting c.args.way c.args.dir.now c.args.rc.now _ _ c.in-Waiting.ensures

pub returns-in-Done-clause-last : goal.returns-in-Done-clause-last
returns-in-Done-clause-last g c = prints_done c.args.way c.args.dir.now c.args.rc.now _ _ c.in-Done.ensures
