use Rattle.trace_view.proofs.Words.{refl}
use Rattle.trace_view.proofs.text_views.TextView.new.Goals as goal

pub returns : goal.returns
returns g c = rw c.new.ensures
    (record { are = refl; whole = refl; lines = refl; begins = refl; seen = c.new-2.ensures.seen }, refl)
