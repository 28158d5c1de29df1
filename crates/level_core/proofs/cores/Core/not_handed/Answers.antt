use Rattle.level_core.proofs.Words.{fits_handed, handed_keeps}
use Rattle.level_core.proofs.cores.Core.not_handed.Goals as goal

pub invariant_of-self : goal.invariant_of-self
invariant_of-self g c = rw c.not_handed_by_state.ensures (handed_keeps c.self.inside.bare c.self.invariant)

pub returns-clause-fits : goal.returns-clause-fits
returns-clause-fits g c goal past sound fits how =
    rw (c.not_handed_by_state.ensures, c.self.view_is) (fits_handed goal past c.args.self.now sound fits how)
