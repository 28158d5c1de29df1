use Rattle.level_core.proofs.Words.{fits_handed_on, handed_on_keeps}
use Rattle.level_core.proofs.cores.Core.handed_on.Goals as goal

pub invariant_of-self : goal.invariant_of-self
invariant_of-self g c = rw c.handed_on_by_state.ensures (handed_on_keeps c.self.inside.bare c.self.invariant)

pub returns-clause-fits : goal.returns-clause-fits
returns-clause-fits g c goal past sound fits how =
    rw (c.handed_on_by_state.ensures, c.self.view_is) (fits_handed_on goal past c.args.self.now sound fits how)
