use Rattle.initview_command.proofs.Words.{◌∙◌, ap, sym, subst, ViewState, Viewed, present}
use Rattle.trace_view.specs.LastLines.{LinesState, Lined}
use Rattle.initview_command.specs.Explaining.{explanation}
use Rattle.initview_command.proofs.explaining.ReasonQuery.answer.Goals as goal

pub returns : goal.returns
returns c = λ past seen has.
    let now = present c.args.shown.now.writer c.args.shown.now.stop past in
    let chain = c.chain_of-chain.ensures past (subst (λ (v : ViewState). Viewed v past) (sym c.view.ensures) seen)
    (subst (λ (l : LinesState). Lined l past) (sym c.seen.ensures) has) in (
      c.in_ok-lines.ensures now
          (subst (λ (v : ViewState). Viewed v now) (sym c.view-2.ensures) (c.in_ok-show_present.ensures past seen))
          ∙ ap (λ l. explanation c.args.shown.now.path.now l c.args.self.told.items now) chain,
      c.stop_status.ensures,
    )
