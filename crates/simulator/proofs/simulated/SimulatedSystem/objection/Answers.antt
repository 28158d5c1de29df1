use Rattle.simulator.proofs.Words.{◌∙◌, ap, is_none}
use Rattle.simulator.proofs.Allowing.{none_may}
use Rattle.simulator.proofs.simulated.SimulatedSystem.objection.Goals as goal

-- there is no objection exactly if the happening may come, by the definition that the function computes
pub returns-clause-none : goal.returns-clause-none
returns-clause-none g c goal past sound fits =
    ap is_none c.objection_by_state.ensures ∙ none_may goal past c.args.self.now sound fits c.args.happening.now
