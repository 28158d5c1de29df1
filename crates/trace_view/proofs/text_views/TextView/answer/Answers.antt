use Rattle.trace_view.proofs.Words.{sym, subst, reverse, Viewed, IsShown, TextState}
use Rattle.trace_view.proofs.SeenTexts.{shown}
use Rattle.trace_view.proofs.text_views.TextView.answer.Goals as goal

pub returns : goal.returns
returns g c = λ trace text small taken.
    subst (λ (s : TextState). IsShown text s.stop c.open_line-open_line.result trace × Viewed s.viewing (reverse trace))
    (sym c.self.view_is)
    (shown c.args.self.now.stop c.args.self.now trace text c.open_line-open_line.result small taken
    c.open_line-open_line.ensures)
