use Rattle.initview_lines.proofs.CommonWords.{◌≡◌, ◌∙◌, ap, ◌++◌, ◌∷◌, [], map, rules, table_of, unreaped_children}
use Rattle.initview_lines.proofs.CommonWords.{gone_ids, entry_row, head_of, row_at}
use Rattle.initview_lines.specs.declared.lines.Line.TheVariants as line
use Rattle.initview_lines.proofs.Stands.{whole}
use Rattle.initview_lines.proofs.rows.status_lines.Goals as goal

pub returns : goal.returns
returns c = λ past seen.
    let shape = c.args.shape in
    let none : c.new-lines.result.items ≡ [] = search rules in
    whole (line.Head shape (head_of past)) (map (entry_row shape past) (table_of past))
    (map (row_at shape past) (gone_ids (table_of past) (unreaped_children past))) _ _ _ _ none
    (c.in_ok-push.ensures.items
    ∙ ap (λ h. c.new-lines.result.items ++ line.Head shape h ∷ []) (c.read_head.ensures past seen))
    (c.in_ok-add_entries.ensures past seen ∙ ap (λ es. c.push.new.self.items ++ map (entry_row shape past) es)
    (c.entries.ensures.value ∙ c.table.ensures.value past seen))
    (c.in_ok-add_ids.ensures past seen ∙ ap (λ ids. c.add_entries.new.lines.items ++ map (row_at shape past) ids)
    (c.as_slice.ensures.value ∙ c.in-Ok.ensures past seen))
