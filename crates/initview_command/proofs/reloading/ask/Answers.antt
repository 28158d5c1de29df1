use Rattle.initview_command.proofs.Words.{◌∷◌, subst, sym, Got, ViewState, Viewed, with_request}
use Rattle.initctl_frame.specs.declared.requests.HeardRequest.TheVariants as got
use Rattle.initview_command.proofs.Reloads.{seen}
use Rattle.initview_command.proofs.reloading.ask.Goals as goal

pub returns : goal.returns
returns c past viewed =
    subst (λ level. Viewed c.show.new.self.viewing.viewing (with_request level past)) (sym c.in-Some.is)
    (subst (λ seconds. Viewed c.show.new.self.viewing.viewing (Got (got.Level c.in-Some.level seconds) ∷ past))
    (c.grace-grace.ensures past (subst (λ (v : ViewState). Viewed v past) (sym c.view.ensures) viewed))
    (seen c.in_ok-_lawful._lawful c.args.text.now.viewing.viewing c.show.new.self.viewing.viewing _ past
    (c.in_ok-_lawful.ensures.law past viewed) c.in_ok-_lawful.ensures.next viewed))
