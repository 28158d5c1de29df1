use Rattle.level_core.proofs.Words.{subst, IsFit}
use Rattle.level_core.proofs.cores.Core.law_of_rules.Goals as goal

pub returns : goal.returns
returns g c = subst IsFit c.self.view_is c.self.invariant
