use Rattle.respawn_limit.proofs.PastLemmas.{eleven_starts, no_start_while_held}
use Rattle.respawn_limit.proofs.law_of_runs.Goals as goal

pub returns-clause-paced : goal.returns-clause-paced
returns-clause-paced c = eleven_starts

pub returns-clause-held : goal.returns-clause-held
returns-clause-held c = no_start_while_held
