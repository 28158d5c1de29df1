use Rattle.initd_command.proofs.Words.{sym, subst, IfOk-weaker, run_of, AreFiles, IsInittab, IsRunObstacle}
use Rattle.initd_command.proofs.Ended.{handed_on}
use Rattle.initd_command.proofs.run.read_inittab.Goals as goal

pub returns-in_err-inittab-clause-err : goal.returns-in_err-inittab-clause-err
returns-in_err-inittab-clause-err g c =
    let text_at = g.T.Texts.text_at c.args.texts.now in
    let service = run_of c.args.options.now in
    let are = subst (AreFiles text_at service) (sym c.deref.ensures.value) c.in_ok-parts.ensures.ok in
    handed_on c.from_residual-in_err-inittab.result c.in_err-inittab.field-0.0 (IsRunObstacle text_at service)
    c.from_residual-in_err-inittab.ensures.1 (c.in_err-inittab.ensures.err text_at service are)

pub returns-clause-ok : goal.returns-clause-ok
returns-clause-ok g c =
    let text_at = g.T.Texts.text_at c.args.texts.now in
    let service = run_of c.args.options.now in
    let are = subst (AreFiles text_at service) (sym c.deref.ensures.value) c.in_ok-parts.ensures.ok in
    IfOk-weaker c.taken.result _ _ (λ read so. subst (IsInittab text_at service) (sym so.0)
    (c.deref.result.now, are, c.in_ok-inittab.ensures.ok, so.1)) c.taken.ensures.ok

pub returns-clause-err : goal.returns-clause-err
returns-clause-err g c =
    let text_at = g.T.Texts.text_at c.args.texts.now in
    let are =
    subst (AreFiles text_at (run_of c.args.options.now)) (sym c.deref.ensures.value) c.in_ok-parts.ensures.ok in
    c.taken.ensures.err text_at c.deref.result.now are c.in_ok-inittab.ensures.ok
