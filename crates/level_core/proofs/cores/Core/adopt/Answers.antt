use Rattle.level_core.proofs.Kept.{adopt_kept, adopted_fits}
use Rattle.level_core.proofs.cores.Core.adopt.Goals as goal

pub invariant_of-self : goal.invariant_of-self
invariant_of-self g c = adopt_kept c.adopt_by_state.result c.args.table c.self.inside.bare c.adopt_by_state.new.self
    c.adopt_by_state.ensures.adopted c.adopt_by_state.ensures.distinct c.adopt_by_state.ensures.busy
    c.adopt_by_state.ensures.unchanged c.self.invariant

pub returns-clause-fits : goal.returns-clause-fits
returns-clause-fits g c = rw (← c.self.view_is) (adopted_fits c.adopt_by_state.result c.args.table c.self.inside.bare
    c.adopt_by_state.new.self c.adopt_by_state.ensures.adopted c.adopt_by_state.ensures.distinct)
