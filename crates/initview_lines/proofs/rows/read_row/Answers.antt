use Rattle.initview_lines.proofs.CommonWords.{◌∙◌}
use Rattle.initview_lines.proofs.Stands.{row_is}
use Rattle.initview_lines.proofs.rows.read_row.Goals as goal

pub returns : goal.returns
returns c = λ past seen. c.row_by.ensures ∙ row_is _ _ _ _ past (c.row.ensures past seen) (c.time.ensures past seen)
    (c.from.ensures ∙ c.grace.ensures past seen)
