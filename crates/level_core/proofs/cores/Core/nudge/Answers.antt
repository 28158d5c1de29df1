use Rattle.level_core.proofs.Words.{fits_round, round_keeps}
use Rattle.level_core.proofs.cores.Core.nudge.Goals as goal

pub invariant_of-self : goal.invariant_of-self
invariant_of-self g c = rw c.nudge_by_state.ensures (round_keeps c.self.inside.bare c.self.invariant)

pub returns-clause-fits : goal.returns-clause-fits
returns-clause-fits g c goal past sound fits =
    rw (c.nudge_by_state.ensures, c.self.view_is) (fits_round goal past c.args.self.now sound fits)
