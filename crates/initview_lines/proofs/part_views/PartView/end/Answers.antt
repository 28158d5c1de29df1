use Rattle.initview_lines.proofs.CommonWords.{sym, subst, IsToldOf, PartState}
use Rattle.initview_lines.proofs.Parts.{told_of}
use Rattle.initview_lines.proofs.part_views.PartView.end.Goals as goal

pub returns : goal.returns
returns c = λ past_lines text small told.
    subst (λ (s : PartState). IsToldOf text s.stop c.open_line-open_line.result past_lines) (sym c.self.view_is)
    (told_of c.args.self.now past_lines text c.open_line-open_line.result small c.open_line-open_line.ensures told)
