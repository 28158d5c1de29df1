use Rattle.initview_command.proofs.Words.{sym, subst, ViewState, Viewed, present}
use Rattle.initview_command.proofs.showing.TraceQueryQuery.answer.Goals as goal

pub returns : goal.returns
returns c = λ past seen has.
    let now = present c.args.shown.now.writer c.args.shown.now.stop past in
    let viewed = c.in_ok-show_present.ensures past seen in (
      c.in_ok-lines.ensures now (subst (λ (v : ViewState). Viewed v now) (sym c.view.ensures) viewed),
      c.status_of-status.ensures now (subst (λ (v : ViewState). Viewed v now) (sym c.view-2.ensures) viewed),
    )
