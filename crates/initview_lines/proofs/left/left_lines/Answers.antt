use Rattle.initview_lines.proofs.CommonWords.{◌∙◌, ◌++◌, ap, filter, map, table_of, child_line}
use Rattle.initview_lines.specs.Left.{is_open, start_line}
use Rattle.initview_lines.proofs.left.left_lines.Goals as goal

pub returns : goal.returns
returns c = λ past seen.
    let shape = c.args.shape in
    c.in_ok-add_starts.ensures past seen
    ∙ ap (λ es. c.in_ok-lines.lines.items ++ map (start_line shape) (filter (is_open past) es))
    (c.entries.ensures.value ∙ c.table.ensures.value past seen)
    ∙ ap (λ lines. lines ++ map (start_line shape) (filter (is_open past) (table_of past)))
    (c.in_ok-lines.ensures ∙ ap (map (child_line shape)) (c.as_slice.ensures.value ∙ c.in-Ok.ensures past seen))
