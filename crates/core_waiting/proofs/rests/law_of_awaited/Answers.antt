use Rattle.core_waiting.proofs.Awaiting.{awaits_known, awaits_all, awaits_none_else}
use Rattle.core_waiting.proofs.rests.law_of_awaited.Goals as goal

pub returns-clause-known : goal.returns-clause-known
returns-clause-known c = awaits_known

pub returns-clause-all : goal.returns-clause-all
returns-clause-all c = awaits_all

pub returns-clause-listed : goal.returns-clause-listed
returns-clause-listed c = awaits_none_else
