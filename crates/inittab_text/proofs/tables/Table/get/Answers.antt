use Rattle.inittab_text.proofs.Words.{◌∙◌, Entry, same_id}
use Rattle.inittab_text.proofs.Entries.{lookup-find}
use Rattle.inittab_text.proofs.tables.Table.get.Goals as goal

-- the map finds the entry that the list of its values has
pub returns : goal.returns
returns g c = record {
  value = rw (← c.self.view_is) (c.get.ensures.value
      ∙ lookup-find (λ (e : Entry). e.id) (same_id c.args.id.now) c.self.inside.entries.entries c.self.invariant.0);
}
