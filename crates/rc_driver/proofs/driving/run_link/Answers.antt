use Rattle.rc_driver.proofs.Words.{◌∙◌}
use Rattle.rc_driver.proofs.ToldLemmas.{ends_unbegun, started_ends, started_lines, started_ran}
use Rattle.rc_driver.proofs.driving.run_link.Goals as goal

pub returns-in-Ok-tell_start-clause-ok : goal.returns-in-Ok-tell_start-clause-ok
returns-in-Ok-tell_start-clause-ok g c =
    started_lines _ c.args.way
    (c.args.link.now, c.args.arg) _ _ _ c.in-Ok-tell_start.ensures.ok c.run_command.ensures.ok

pub returns-in-Ok-tell_start-clause-ran : goal.returns-in-Ok-tell_start-clause-ran
returns-in-Ok-tell_start-clause-ran g c =
    started_ran _ _ _ c.args.way c.args.dir.now c.args.link.now _ _ _ _ _ _
    (c.as_bytes.ensures.value ∙ c.in-Ok.ensures) c.run_command.ensures.ran

pub returns-in-Ok-tell_start-clause-ends : goal.returns-in-Ok-tell_start-clause-ends
returns-in-Ok-tell_start-clause-ends g c =
    started_ends _ _ _ c.args.way c.args.dir.now _ _ (c.args.link.now, c.args.arg) _ _ _ _ _
    (c.as_bytes.ensures.value ∙ c.in-Ok.ensures) c.in-Ok-tell_start.ensures.ok c.run_command.ensures.ends

pub returns-clause-ends : goal.returns-clause-ends
returns-clause-ends g c =
    ends_unbegun _ c.args.way c.args.dir.now _ (c.args.link.now, c.args.arg) _ _ _ _ c.in-Err.ensures.err
