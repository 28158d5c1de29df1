use Rattle.initview_command.proofs.Words.{◌≡◌, ◌∙◌, Some, subst, sym, ViewState, Viewed, entered}
use Rattle.trace_view.specs.Wishes.{next_stage}
use Rattle.initview_command.proofs.Reloads.{seen}
use Rattle.initview_command.proofs.reloading.go_on.Goals as goal

pub returns : goal.returns
returns c past viewed =
    let next : next_stage past ≡ Some (c.in-Some.stage, c.in-Some.grace) =
    sym (c.next_stage.ensures past (subst (λ (v : ViewState). Viewed v past) (sym c.view.ensures) viewed))
    ∙ c.in-Some.is in
    subst (λ o. Viewed c.show.new.self.viewing.viewing (entered o past)) (sym next)
    (seen c.in_ok-_lawful._lawful c.args.text.now.viewing.viewing c.show.new.self.viewing.viewing _ past
    (c.in_ok-_lawful.ensures.law past viewed) c.in_ok-_lawful.ensures.next viewed)
