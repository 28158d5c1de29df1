-- Each clause of `law_of_held` is one of the lemmas on the held happenings.
use Rattle.trace_log_wrappers.proofs.HoldLemmas.{holds_first, holds_next}
use Rattle.trace_log_wrappers.proofs.laws.law_of_held.Goals as goal

pub returns-clause-first : goal.returns-clause-first
returns-clause-first c = holds_first

pub returns-clause-next : goal.returns-clause-next
returns-clause-next c = holds_next
