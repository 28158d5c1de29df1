use Rattle.initview_timeline.proofs.Words.{◌∙◌, ap, ◌∷◌, sent_for}
use Rattle.trace_events.specs.declared.happenings.Happening.TheVariants.{Hit}
use Rattle.initview_timeline.proofs.marks.shown_of.Goals as goal

pub returns-in-Hit : goal.returns-in-Hit
returns-in-Hit g c = rw c.in-Hit.is (λ past seen.
    c.sent_for.ensures ∙ ap (sent_for c.in-Hit.id) (c.order.ensures (Hit c.in-Hit.id ∷ past) seen))
