use Rattle.core_waiting.proofs.Arriving.{falls, stays, arrives, arrives_there, few, in_all}
use Rattle.core_waiting.proofs.Existing.{rounds_exist}
use Rattle.core_waiting.proofs.Reaching.{reached}
use Rattle.core_waiting.proofs.arrivals.law_of_arrival.Goals as goal

pub returns-clause-falls : goal.returns-clause-falls
returns-clause-falls c = falls

pub returns-clause-stays : goal.returns-clause-stays
returns-clause-stays c = stays

pub returns-clause-arrives : goal.returns-clause-arrives
returns-clause-arrives c = arrives

pub returns-clause-destined : goal.returns-clause-destined
returns-clause-destined c = arrives_there

pub returns-clause-few : goal.returns-clause-few
returns-clause-few c = few

pub returns-clause-bounded : goal.returns-clause-bounded
returns-clause-bounded c = in_all

pub returns-clause-exist : goal.returns-clause-exist
returns-clause-exist c goal later past count = rounds_exist goal later past count

pub returns-clause-reached : goal.returns-clause-reached
returns-clause-reached c = reached
