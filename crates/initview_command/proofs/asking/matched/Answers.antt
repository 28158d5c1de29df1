use Rattle.initview_command.proofs.Asked.{is_free_line}
use Rattle.initview_command.proofs.asking.matched.Goals as goal

pub returns-clause-ok : goal.returns-clause-ok
returns-clause-ok c = c.read_line.ensures.ok is_free_line

pub returns-clause-usage : goal.returns-clause-usage
returns-clause-usage c = c.read_line.ensures.usage is_free_line
