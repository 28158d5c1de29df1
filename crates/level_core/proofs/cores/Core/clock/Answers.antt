use Rattle.level_core.proofs.Words.{fits_clock, clock_keeps}
use Rattle.level_core.proofs.cores.Core.clock.Goals as goal

pub invariant_of-self : goal.invariant_of-self
invariant_of-self g c = rw c.clock_by_state.ensures (clock_keeps c.self.inside.bare c.self.invariant c.args.reading)

pub returns-clause-fits : goal.returns-clause-fits
returns-clause-fits g c goal past sound fits =
    rw (c.clock_by_state.ensures, c.self.view_is) (fits_clock goal past c.args.self.now sound fits c.args.reading)
