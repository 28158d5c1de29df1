use Rattle.initview_command.proofs.Words.{◌∷◌, ◌∙◌, ◌+◌, ◌-◌, ◌^◌, ap, min, sym, subst, Clock, Viewed}
use Rattle.initview_command.proofs.Reloads.{seen}
use Rattle.initview_command.proofs.presence.show_clock.Goals as goal

pub returns : goal.returns
returns g c = λ past viewed.
    let law = c.in_ok-_lawful._lawful in
    let time = c.time-time.ensures past (subst (λ v. Viewed v past) (sym c.view.ensures) viewed) in
    subst (λ reading. Viewed c.show.new.self.viewing.viewing (Clock reading ∷ past))
    (c.saturating_add.ensures ∙ ap (λ t. min (t + c.args.seconds) (2 ^ 64 - 1)) time)
    (seen law c.args.text.now.viewing.viewing c.show.new.self.viewing.viewing _ past
    (c.in_ok-_lawful.ensures.law past viewed) c.in_ok-_lawful.ensures.next viewed)
