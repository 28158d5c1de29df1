use Rattle.supervisor.proofs.Texts.{generation_counted, given_carried}
use Rattle.supervisor.proofs.edge_laws.law_of_texts.Goals as goal

pub returns-clause-generation : goal.returns-clause-generation
returns-clause-generation c calls p = generation_counted calls p

pub returns-clause-carried : goal.returns-clause-carried
returns-clause-carried c goal calls p texts given = given_carried goal calls p texts given
