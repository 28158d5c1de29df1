use Rattle.level_core.proofs.Words.{sym, ap, ◌∙◌, decide, step_keeps}
use Rattle.core_model.proofs.Deciding.{decide_due}
use Rattle.core_model.proofs.Stepping.{fits_step}
use Rattle.level_core.proofs.cores.Core.next.Goals as goal

pub invariant_of-self : goal.invariant_of-self
invariant_of-self g c = rw c.next_by_state.ensures.state
    (step_keeps c.self.inside.bare c.self.invariant c.next_by_state.result (sym c.next_by_state.ensures.step))

pub returns-clause-due : goal.returns-clause-due
returns-clause-due g c goal past sound fits =
    c.next_by_state.ensures.step ∙ ap decide c.self.view_is ∙ decide_due goal past sound c.args.self.now fits

pub returns-clause-fits : goal.returns-clause-fits
returns-clause-fits g c goal past sound fits =
    rw (c.next_by_state.ensures.state, c.next_by_state.ensures.step, c.self.view_is)
    (fits_step goal past c.args.self.now sound fits)
