use Rattle.core_waiting.proofs.Coming.{comes, arrives, steps_fit}
use Rattle.core_waiting.proofs.rests.law_of_coming.Goals as goal

pub returns-clause-comes : goal.returns-clause-comes
returns-clause-comes c = comes

pub returns-clause-arrives : goal.returns-clause-arrives
returns-clause-arrives c = arrives

pub returns-clause-fits : goal.returns-clause-fits
returns-clause-fits c core goal past sound fits n = steps_fit n core goal past sound fits
