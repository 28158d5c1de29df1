use Rattle.inittab_text.proofs.Words.{◌≡◌, ◌∙◌, ap, sym, subst, true, ◌++◌, ◌∷◌, [], values_of, keys_of, Entry, same_id}
use Rattle.inittab_text.proofs.Words.{entry_of, ids_of, is_table}
use Rattle.inittab_text.proofs.Entries.{lookup-find, values-push, keys-push, is_table-push}
use Rattle.indexmap.proofs.CallerLemmas.{insert_entry-new}
use Rattle.inittab_text.proofs.tables.Table.push.Goals as goal
use Rattle.inittab_text.proofs.tables.Table.push.Given.{Over}

-- the map has the entry added at its end, under its id
gained : (g : Over) (c : goal.In_ok-insert g)
    → c.insert.new.self.entries ≡ c.self.inside.entries.entries ++ (c.args.entry.id, c.args.entry) ∷ []
gained g c =
    c.in_ok-insert.ensures.entries ∙ insert_entry-new same_id c.self.inside.entries c.args.entry.id c.args.entry
    (lookup-find (λ (e : Entry). e.id) (same_id c.args.entry.id) c.self.inside.entries.entries c.self.invariant.0
    ∙ ap (entry_of c.args.entry.id) c.self.view_is ∙ c.requires.new)

-- its values are the previous ones followed by the entry
values_gained : (g : Over) (c : goal.In_ok-insert g)
    → values_of c.insert.new.self.entries ≡ c.args.self.now ++ c.args.entry ∷ []
values_gained g c = ap values_of (gained g c) ∙ values-push c.self.inside.entries.entries c.args.entry.id c.args.entry
    ∙ ap (λ es. es ++ c.args.entry ∷ []) c.self.view_is

pub returns-clause-ok : goal.returns-clause-ok
returns-clause-ok g c = values_gained g c

pub invariant_of-self-2 : goal.invariant_of-self-2
invariant_of-self-2 g c = (
  ap keys_of (gained g c) ∙ keys-push (λ (e : Entry). e.id) c.self.inside.entries.entries c.args.entry
      c.self.invariant.0 ∙ sym (ap (λ es. ids_of (values_of es)) (gained g c)),
  subst (λ es. is_table es ≡ true) (sym (values_gained g c))
      (is_table-push c.args.self.now c.args.entry (subst (λ es. is_table es ≡ true) c.self.view_is c.self.invariant.1)
      c.requires.new c.requires.written c.requires.room),
)
