use Rattle.initview_timeline.proofs.Words.{◌≡◌, ◌∙◌, refl, sym, ap, ℕ, List, [], ◌∷◌, ◌++◌, Life, Shown, last_after}
use Rattle.initview_timeline.proofs.Words.{life_after}
use Rattle.initview_timeline.proofs.lives.change_last.Goals as goal

last_behind : (ls : List Life) (l : Life) (time : ℕ) (what : Shown)
    → last_after (ls ++ l ∷ []) time what ≡ ls ++ life_after l time what ∷ []
last_behind [] l time what = refl
last_behind (m ∷ []) l time what = refl
last_behind (m ∷ n ∷ ls) l time what = ap (λ t. m ∷ t) (last_behind (n ∷ ls) l time what)

pub returns : goal.returns
returns c =
    let time = c.args.mark.now.time in
    let what = c.args.mark.now.what in
    let others = c.pop.new.self.items in
    c.in_ok-push.ensures.items ∙ ap (λ (l : Life). others ++ l ∷ []) c.life_after.ensures
    ∙ sym (last_behind others c.in-Some.life time what)
    ∙ ap (λ ls. last_after ls time what) (sym c.in-Some.ensures.items)
