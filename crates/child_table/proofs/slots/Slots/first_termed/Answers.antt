use Rattle.child_table.proofs.Words.{subst, sym, ap, ◌∙◌, IsFirstTermed, first_key}
use Rattle.child_table.proofs.Keys.{first_is_first}
use Rattle.child_table.proofs.slots.Slots.first_termed.Goals as goal

pub returns : goal.returns
returns g c = subst (IsFirstTermed c.args.self.now) (sym (c.first_key.ensures ∙ ap first_key c.as_slice.ensures.value))
    (first_is_first c.args.self.now c.self.inside.termed.items c.self.invariant.4.sorted
    (rw c.self.view_is at c.self.invariant.4.those))
