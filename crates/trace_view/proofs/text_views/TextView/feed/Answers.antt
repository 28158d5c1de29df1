use Rattle.trace_view.proofs.Words.{◌∙◌, sym, ap, TextState}
use Rattle.trace_view.proofs.SeenTexts.{still_stopped}
use Rattle.trace_view.proofs.text_views.TextView.feed.Goals as goal

pub returns-in-Some : goal.returns-in-Some
returns-in-Some g c = λ trace text taken.
    still_stopped c.args.self.now.stop c.args.self.now trace text c.args.piece.now c.in-Some.field-0
    (sym (ap (λ (s : TextState). s.stop) c.self.view_is) ∙ c.in-Some.is) taken
