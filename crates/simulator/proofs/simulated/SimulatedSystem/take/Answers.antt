use Rattle.std.specs.Prelude.{Result, Ok, Err, OnOk}
use Rattle.simulator.proofs.Taking.{follows_after}
use Rattle.simulator.proofs.simulated.SimulatedSystem.take.Goals as goal

-- combines three clauses about the same `Ok`
three : {T E : Type 0} (r : Result T E) (P Q R S : Type 0) → (P → Q → R → S) → OnOk r P → OnOk r Q → OnOk r R → OnOk r S
three (Ok x) P Q R S f p q t = f p q t
three (Err e) P Q R S f p q t = tt

pub returns-clause-ok : goal.returns-clause-ok
returns-clause-ok g c = three c.take_by_state.result _ _ _ _ (λ orders answers children goal past sound fits.
    follows_after goal c.args.happening.now past c.args.self.now c.take_by_state.new.self orders answers children sound
    fits) c.take_by_state.ensures.orders c.take_by_state.ensures.answers c.take_by_state.ensures.children
