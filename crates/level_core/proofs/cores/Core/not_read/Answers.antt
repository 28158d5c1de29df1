use Rattle.level_core.proofs.Words.{fits_not_read, not_read_keeps}
use Rattle.level_core.proofs.cores.Core.not_read.Goals as goal

pub invariant_of-self : goal.invariant_of-self
invariant_of-self g c = rw c.not_read_by_state.ensures (not_read_keeps c.self.inside.bare c.self.invariant)

pub returns-clause-fits : goal.returns-clause-fits
returns-clause-fits g c goal past sound fits =
    rw (c.not_read_by_state.ensures, c.self.view_is) (fits_not_read goal past c.args.self.now sound fits)
