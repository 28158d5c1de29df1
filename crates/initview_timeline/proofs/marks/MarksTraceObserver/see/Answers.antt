use Rattle.initview_timeline.proofs.Words.{◌≡◌, ◌∙◌, ap, ◌∷◌, ◌++◌, ℕ, List, Option, time_of, TimelineMark, SeenMarks}
use Rattle.initview_timeline.proofs.Words.{mark_at, shown_of, start_after}
use Rattle.initview_timeline.proofs.marks.MarksTraceObserver.see.Goals as goal

joined : (m n : List TimelineMark) (s t : Option ℕ) → m ≡ n → s ≡ t
    → ◌≡◌ {A = SeenMarks} (record { marks = m; start = s }) (record { marks = n; start = t })
joined m n s t marks start =
    ap (λ k. record { marks = k; start = s }) marks ∙ ap (λ k. record { marks = n; start = k }) start

pub returns : goal.returns
returns g c = rw (← c.self.view_is) (λ past seen on here marked.
    joined _ _ _ _
    (c.in_ok-take_mark.ensures past seen
    ∙ ap (λ (m : SeenMarks). m.marks
    ++ mark_at (time_of (c.args.happening.now ∷ past)) (shown_of c.args.happening.now past)) marked)
    (c.start_after-self-inside.ensures ∙ ap (λ (m : SeenMarks). start_after m.start c.args.happening.now) marked))
