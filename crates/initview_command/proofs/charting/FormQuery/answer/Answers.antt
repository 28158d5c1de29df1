use Rattle.initview_command.proofs.Words.{sym, subst, ap, [], ◌∷◌, ◌++◌, ◌∙◌, ViewState, Viewed}
use Rattle.initview_command.proofs.charting.FormQuery.answer.Goals as goal

pub returns : goal.returns
returns c = λ past seen has. (
  c.in_ok-push.ensures.items
      ∙ ap (λ ls. ls ++ c.in_ok-drawn.drawn ∷ []) c.new-lines.ensures.items
      ∙ ap (λ l. l ∷ []) (c.in_ok-drawn.ensures past
      (subst (λ (v : ViewState). Viewed v past) (sym c.view.ensures) seen) (c.seen.ensures ∙ has)),
  c.stop_status.ensures,
)
