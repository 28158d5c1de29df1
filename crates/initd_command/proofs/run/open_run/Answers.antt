use Rattle.initd_command.proofs.Words.{run_of, IsRunObstacle}
use Rattle.initd_command.proofs.Ended.{handed_on, read_taken}
use Rattle.initd_command.proofs.run.open_run.Goals as goal

pub returns-in_err-trace-clause-err : goal.returns-in_err-trace-clause-err
returns-in_err-trace-clause-err g c =
    let text_at = g.T.Texts.text_at c.args.texts.now in
    let service = run_of c.args.options.now in
    handed_on c.from_residual-in_err-trace.result c.in_err-trace.field-0.0
    (IsRunObstacle text_at service) c.from_residual-in_err-trace.ensures.1
    (c.in_err-trace.ensures.err text_at (read_taken text_at service c.in_ok-table.field-0 c.in_ok-table.ensures.ok))

pub returns-in-Err-clause-err : goal.returns-in-Err-clause-err
returns-in-Err-clause-err g c = c.in-Err.ensures.err (g.T.Texts.text_at c.args.texts.now)

pub returns-in_err-refuse_shared-clause-err : goal.returns-in_err-refuse_shared-clause-err
returns-in_err-refuse_shared-clause-err g c =
    let text_at = g.T.Texts.text_at c.args.texts.now in
    handed_on c.from_residual-in_err-refuse_shared.result c.in_err-refuse_shared.field-0.0
    (IsRunObstacle text_at (run_of c.args.options.now)) c.from_residual-in_err-refuse_shared.ensures.1
    (c.in_err-refuse_shared.ensures.refused text_at)

pub returns-in_err-refuse_unwaited-clause-err : goal.returns-in_err-refuse_unwaited-clause-err
returns-in_err-refuse_unwaited-clause-err g c =
    let text_at = g.T.Texts.text_at c.args.texts.now in
    let service = run_of c.args.options.now in
    handed_on c.from_residual.result c.in_err-refuse_unwaited.field-0.0
    (IsRunObstacle text_at service) c.from_residual.ensures.1 (c.in_err-refuse_unwaited.ensures text_at service)
