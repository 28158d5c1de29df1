use Rattle.initview_lines.proofs.CommonWords.{◌∷◌, ◌∙◌, ap, Some}
use Rattle.initview_lines.specs.CommonWords.{open_of}
use Rattle.trace_events.specs.declared.happenings.Happening.TheVariants.{Hit, Miss}
use Rattle.initview_lines.specs.declared.happenings.News.TheVariants as news
use Rattle.initview_lines.proofs.happenings.news_of.Goals as goal

pub returns-in-Hit : goal.returns-in-Hit
returns-in-Hit c = rw c.in-Hit.is (λ past seen.
    ap (λ o. Some (news.Sent c.in-Hit.id o c.child.result)) (c.order.ensures (Hit c.in-Hit.id ∷ past) seen)
    ∙ ap (λ n. Some (news.Sent c.in-Hit.id (open_of c.in-Hit.id past) n))
    (c.child.ensures (Hit c.in-Hit.id ∷ past) seen))

pub returns-in-Miss : goal.returns-in-Miss
returns-in-Miss c = rw c.in-Miss.is (λ past seen.
    ap (λ o. Some (news.NotSent c.in-Miss.id o c.child-in-Miss.result))
    (c.order-in-Miss.ensures (Miss c.in-Miss.id ∷ past) seen)
    ∙ ap (λ n. Some (news.NotSent c.in-Miss.id (open_of c.in-Miss.id past) n))
    (c.child-in-Miss.ensures (Miss c.in-Miss.id ∷ past) seen))
