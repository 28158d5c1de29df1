use Rattle.initview_command.proofs.Words.{◌∷◌, subst, Viewed, NewTable}
use Rattle.initview_command.proofs.Reloads.{seen}
use Rattle.initview_command.proofs.reloading.show_table.Goals as goal

pub returns : goal.returns
returns c past viewed =
    subst (λ table. Viewed c.show.new.self.viewing.viewing (NewTable table ∷ past)) c.in_ok-copy.ensures
    (seen c.in_ok-_lawful._lawful c.args.text.now.viewing.viewing c.show.new.self.viewing.viewing _ past
    (c.in_ok-_lawful.ensures.law past viewed) c.in_ok-_lawful.ensures.next viewed)
