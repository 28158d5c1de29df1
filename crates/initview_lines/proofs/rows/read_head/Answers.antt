use Rattle.initview_lines.proofs.CommonWords.{◌∙◌}
use Rattle.initview_lines.proofs.Stands.{head_is}
use Rattle.initview_lines.proofs.rows.read_head.Goals as goal

pub returns : goal.returns
returns c = λ past seen.
    head_is _ _ _ _ _ _ _ past (c.stage.ensures past seen) (c.is_settled.ensures past seen)
    (c.is_complete.ensures past seen) (c.time.ensures past seen)
    (c.from.ensures ∙ c.grace.ensures past seen) (c.asked_level.ensures past seen) (c.wish.ensures past seen)
