use Rattle.rc_command.proofs.CommonWords.{inl}
use Rattle.rc_command.proofs.Reported.{print_done, print_known, print_not_waiting}
use Rattle.rc_command.proofs.running.print_all.Goals as goal

pub report_end-requires : goal.report_end-requires
report_end-requires g c =
    print_not_waiting c.args.way c.args.path.now c.args.rc.now _ _ _ _ c.requires c.print_links-ended.ensures

pub returns-clause-statuses : goal.returns-clause-statuses
returns-clause-statuses g c =
    print_known c.args.way c.args.path.now c.args.rc.now _ _ _ _ _ c.requires c.report_end.ensures.status
    c.print_links-ended.ensures

pub returns-clause-done : goal.returns-clause-done
returns-clause-done g c =
    print_done c.args.way c.args.path.now c.args.rc.now _ _ _ _ _ c.requires c.report_end.ensures.status
    c.print_links-ended.ensures

pub returns-clause-part : goal.returns-clause-part
returns-clause-part g c = c.print_links-ended.ensures.part

pub returns-clause-silent : goal.returns-clause-silent
returns-clause-silent g c = λ is. c.report_end.ensures.silent (inl is)
