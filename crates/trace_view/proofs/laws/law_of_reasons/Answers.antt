use Rattle.trace_view.proofs.Reasons.{nothing_due}
use Rattle.trace_view.proofs.laws.law_of_reasons.Goals as goal

pub returns : goal.returns
returns c = nothing_due
