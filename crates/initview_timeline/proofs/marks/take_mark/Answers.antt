use Rattle.initview_timeline.proofs.Words.{◌∙◌, ap, ◌∷◌, ◌++◌, Option, ℕ, time_of, Shown, mark_at}
use Rattle.initview_timeline.proofs.marks.take_mark.Goals as goal

pub returns : goal.returns
returns g c = λ past seen.
    c.in_ok-add_mark.ensures
    ∙ ap (λ (n : ℕ). c.args.marks.now.items ++ mark_at n c.shown_of-shown.result)
    (c.time.ensures (c.args.happening.now ∷ past) seen)
    ∙ ap (λ (s : Option Shown). c.args.marks.now.items ++ mark_at (time_of (c.args.happening.now ∷ past)) s)
    (c.shown_of-shown.ensures past seen)
