use Rattle.initview_lines.proofs.CommonWords.{◌∙◌, sym, ap, PartState}
use Rattle.initview_lines.proofs.Parts.{fed_stopped, fed_more}
use Rattle.initview_lines.proofs.part_views.PartView.feed.Goals as goal

pub returns-in-Some : goal.returns-in-Some
returns-in-Some c = λ past_lines text told.
    fed_stopped c.args.self.now c.in-Some.field-0 past_lines text c.args.piece.now
    (sym (ap (λ (s : PartState). s.stop) c.self.view_is) ∙ c.in-Some.is) told
