use Rattle.initview_lines.proofs.Entering.{reload_enters}
use Rattle.initview_lines.proofs.reloads.law_of_reloads.Goals as goal

pub returns : goal.returns
returns c = reload_enters
