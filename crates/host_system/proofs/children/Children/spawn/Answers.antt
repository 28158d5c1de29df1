use Rattle.std.proofs.Common.{ℕ, ◌∙◌, ◌++◌, ◌∷◌, [], ap, sym}
use Rattle.host_system.proofs.Holding.{inserted_last}
use Rattle.host_system.proofs.children.Children.spawn.Goals as goal

pub returns-clause-born : goal.returns-clause-born
returns-clause-born g c =
    inserted_last c.args.id c.new-held.result c.reserve.new.self c.args.self.now c.insert.new.self.entries
    (c.in_ok-reserve.ensures.entries ∙ c.self.view_is) c.requires c.in-Ok.ensures.entries
    ∙ ap (λ (number : ℕ). c.args.self.now ++ (c.args.id, number) ∷ []) (sym c.number-number.ensures)
