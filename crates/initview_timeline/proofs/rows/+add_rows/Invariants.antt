use Rattle.initview_timeline.proofs.Words.{length}
use Rattle.initview_timeline.proofs.rows.+add_rows.Given as goal

abbrev pub decreases-add_rows : goal.decreases-add_rows
decreases-add_rows l = length l.ids.now
