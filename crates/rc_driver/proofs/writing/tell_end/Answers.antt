use Rattle.rc_driver.proofs.writing.tell_end.Goals as goal

pub returns-in-NotStarted-clause-err : goal.returns-in-NotStarted-clause-err
returns-in-NotStarted-clause-err g c = rw c.in-NotStarted.is c.tell_script-in-NotStarted.ensures.err
