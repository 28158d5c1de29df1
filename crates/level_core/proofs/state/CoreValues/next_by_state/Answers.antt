use Rattle.core_model.proofs.Working.{decide_falls}
use Rattle.level_core.proofs.state.CoreValues.next_by_state.Goals as goal

pub returns-clause-falls : goal.returns-clause-falls
returns-clause-falls g c busy =
    rw (c.apply.ensures, c.due_step-step.ensures.step, c.pass.ensures) (decide_falls c.args.self.now
    (rw c.pass.ensures at c.due_step-step.ensures.order) (rw (c.due_step-step.ensures.step, c.pass.ensures) at busy))
