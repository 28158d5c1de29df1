use Rattle.trace_laws.proofs.Following.{begins, settled, in_turn}
use Rattle.trace_laws.proofs.plans.law_of_plans.Goals as goal

pub returns-clause-beginning : goal.returns-clause-beginning
returns-clause-beginning c = begins

pub returns-clause-whole : goal.returns-clause-whole
returns-clause-whole c = settled

pub returns-clause-waits : goal.returns-clause-waits
returns-clause-waits c = in_turn
