use Rattle.initview_timeline.proofs.Words.{◌∙◌, ap, shown_to}
use Rattle.initview_timeline.proofs.Parted.{near_shown}
use Rattle.initview_timeline.proofs.rows.marks_near.Goals as goal

pub returns : goal.returns
returns c id one = ap (shown_to id) c.in_ok-near.ensures
    ∙ near_shown id c.in_ok-set.set.keys (c.in_ok-set.ensures id ∙ one) c.args.marks.now
