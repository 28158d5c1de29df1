use Rattle.initview_command.proofs.Words.{sym, subst, ViewState, Viewed, reloaded}
use Rattle.initview_command.proofs.reloading.ReloadQuery.answer.Goals as goal

pub returns : goal.returns
returns c = λ past seen has.
    let after = reloaded c.args.self.new c.args.self.level past in (
      c.in_ok-lines.ensures after
          (subst (λ (v : ViewState). Viewed v after) (sym c.view.ensures) (c.in_ok-read_anew.ensures past seen)),
      c.stop_status.ensures,
    )
