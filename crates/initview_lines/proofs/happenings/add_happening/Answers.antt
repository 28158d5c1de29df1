use Rattle.initview_lines.proofs.CommonWords.{◌∙◌, sym, ap, ◌∷◌, ◌++◌, line_at, news_of}
use Rattle.initview_lines.proofs.happenings.add_happening.Goals as goal

pub returns-in_ok-push : goal.returns-in_ok-push
returns-in_ok-push c = λ past seen.
    let h = c.args.happening.now in
    c.in_ok-push.ensures.items
    ∙ ap (λ news. c.args.lines.now.items ++ line_at c.time.result news) (sym c.in-Some.is ∙ c.news_of.ensures past seen)
    ∙ ap (λ time. c.args.lines.now.items ++ line_at time (news_of h past)) (c.time.ensures (h ∷ past) seen)
