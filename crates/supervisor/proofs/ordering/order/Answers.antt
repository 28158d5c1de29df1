use Rattle.supervisor.proofs.Words.{ap}
use Rattle.trace_events.specs.declared.steps.Step.TheVariants as step
use Rattle.supervisor.proofs.Carried.{MadeCallsLead-given}
use Rattle.supervisor.proofs.ordering.order.Goals as goal

pub returns-in-Start-clause-makes : goal.returns-in-Start-clause-makes
returns-in-Start-clause-makes g c = MadeCallsLead-given g.L.Log.state c.args.edge.now.told c.start.new.edge.told
    (g.L.Log.state c.args.edge.now.log) (g.L.Log.state c.start.new.edge.log) c.args.core.now c.start.new.core _ _
    (ap (step.Order c.args.id) c.in-Start.is) c.start.ensures.makes

pub returns-in-Look-clause-makes : goal.returns-in-Look-clause-makes
returns-in-Look-clause-makes g c = MadeCallsLead-given g.L.Log.state c.args.edge.now.told c.look.new.edge.told
    (g.L.Log.state c.args.edge.now.log) (g.L.Log.state c.look.new.edge.log) c.args.core.now c.look.new.core _ _
    (ap (step.Order c.args.id) c.in-Look.is) c.look.ensures.makes

pub returns-in-Term-clause-makes : goal.returns-in-Term-clause-makes
returns-in-Term-clause-makes g c = MadeCallsLead-given g.L.Log.state c.args.edge.now.told c.signal.new.edge.told
    (g.L.Log.state c.args.edge.now.log) (g.L.Log.state c.signal.new.edge.log) c.args.core.now c.signal.new.core _ _
    (ap (step.Order c.args.id) c.in-Term.is) c.signal.ensures.makes

pub returns-in-Kill-clause-makes : goal.returns-in-Kill-clause-makes
returns-in-Kill-clause-makes g c = MadeCallsLead-given g.L.Log.state c.args.edge.now.told c.signal-in-Kill.new.edge.told
    (g.L.Log.state c.args.edge.now.log) (g.L.Log.state c.signal-in-Kill.new.edge.log) c.args.core.now
    c.signal-in-Kill.new.core _ _ (ap (step.Order c.args.id) c.in-Kill.is) c.signal-in-Kill.ensures.makes
