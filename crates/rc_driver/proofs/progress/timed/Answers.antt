use Rattle.rc_driver.proofs.Words.{refl, sym, ap, ◌∙◌, subst, Ok, Tells, time_lines, timer_at}
use Rattle.rc_driver.proofs.CallLemmas.{goes_clock, goes_signal, no_reading, tells_signal}
use Rattle.rc_driver.proofs.progress.timed.Goals as goal

pub returns-in_default-clause-calls : goal.returns-in_default-clause-calls
returns-in_default-clause-calls g c =
    goes_clock _ _ c.args.way.seconds _ _ _ c.in_default.ensures.adds (no_reading c.args.way.seconds _ _) refl

pub returns-in_default-due-clause-calls : goal.returns-in_default-due-clause-calls
returns-in_default-due-clause-calls g c =
    goes_clock _ _ c.args.way.seconds (Ok c.in-Ok.now) _ _ c.in-Ok.ensures.adds
    (sym c.due_at-due.ensures ∙ c.in_default-due.is)
    (c.timer_at.ensures ∙ ap (λ due. timer_at c.args.timer.now c.in-Ok.now due) c.in_default-due.is)

pub returns-clause-calls : goal.returns-clause-calls
returns-clause-calls g c =
    goes_signal _ _ _ c.args.way.seconds
    (Ok c.in-Ok.now) _ c.in-Some.signal _ _ _ c.in-Ok.ensures.adds c.signal.ensures.adds c.script_id.ensures
    (sym c.due_at-due.ensures ∙ c.in-Some.is)
    (c.timer_at.ensures ∙ ap (λ due. timer_at c.args.timer.now c.in-Ok.now due) c.in-Some.is)

pub returns-clause-told : goal.returns-clause-told
returns-clause-told g c = λ before earlier.
    let behind = c.timer_at.ensures ∙ ap (λ due. timer_at c.args.timer.now c.in-Ok.now due) c.in-Some.is in
    subst (λ time. Tells before (g.E.Reporter.reports c.tell_signal.new.err)
    (time_lines c.args.way c.args.dir.now c.args.link.now time)) (sym behind)
    (tells_signal c.args.way c.args.dir.now c.args.link.now c.args.way.seconds c.in-Ok.now c.args.timer.now
    c.in-Some.signal before _ _
    (sym c.due_at-due.ensures ∙ c.in-Some.is) c.tell_signal.ensures earlier)
