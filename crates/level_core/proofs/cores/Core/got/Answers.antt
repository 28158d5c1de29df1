use Rattle.level_core.proofs.Words.{fits_got, got_keeps}
use Rattle.level_core.proofs.cores.Core.got.Goals as goal

pub invariant_of-self : goal.invariant_of-self
invariant_of-self g c = rw c.got_by_state.ensures (got_keeps c.self.inside.bare c.self.invariant c.args.request)

pub returns-clause-fits : goal.returns-clause-fits
returns-clause-fits g c goal past sound fits =
    rw (c.got_by_state.ensures, c.self.view_is) (fits_got goal past c.args.self.now sound fits c.args.request)
