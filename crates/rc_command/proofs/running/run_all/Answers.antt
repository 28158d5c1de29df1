use Rattle.rc_command.proofs.Reported.{known_by, not_waiting, runs_scripts}
use Rattle.rc_command.proofs.running.run_all.Goals as goal

pub report_end-requires : goal.report_end-requires
report_end-requires g c =
    not_waiting _ _ c.args.options.way c.args.path.now _ _ _ _ _ _ _ c.requires c.run_links-ended.ensures.calls

pub returns-clause-statuses : goal.returns-clause-statuses
returns-clause-statuses g c = known_by c.args.options.strict _ _ c.report_end.ensures.status

pub returns-clause-ran : goal.returns-clause-ran
returns-clause-ran g c =
    runs_scripts c.args.options _ _ c.args.path.now _ _ _ _ _ _ _ _ _ c.report_end.ensures.status
    c.report_end.ensures.report c.run_links-ended.ensures.calls
