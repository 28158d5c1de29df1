use Rattle.supervisor.proofs.Turning.{turn_made}
use Rattle.supervisor.proofs.Grown.{turn_grows}
use Rattle.supervisor.proofs.serving.turn.Goals as goal

pub returns-clause-makes : goal.returns-clause-makes
returns-clause-makes g c = turn_made g.L.Log.state c.args.strict c.take_steps.result
    c.args.edge.now.told c.hear_clock.new.edge.told c.hear_requests.new.edge.told c.hear_lates.new.edge.told
    c.take_steps.new.edge.told
    (g.L.Log.state c.args.edge.now.log) (g.L.Log.state c.hear_clock.new.edge.log) (g.L.Log.state
    c.hear_requests.new.edge.log) (g.L.Log.state c.hear_lates.new.edge.log) (g.L.Log.state c.take_steps.new.edge.log)
    c.args.core.now c.hear_clock.new.core c.hear_requests.new.core c.hear_lates.new.core c.take_steps.new.core
    c.args.blocks.now c.hear_requests.new.blocks
    c.hear_clock.ensures.makes c.hear_requests.ensures.makes c.hear_lates.ensures.makes c.take_steps.ensures.makes
    (λ read short.
    let clock = c.hear_clock.ensures.grows short in
    let takes = (c.hear_requests.ensures.grows read).1 clock.0 in
    let lates = c.hear_lates.ensures.grows takes.0 in
    let steps = c.take_steps.ensures.grows lates.0 in
    (takes.1, lates.1, steps.1))

pub returns-clause-grows : goal.returns-clause-grows
returns-clause-grows g c = turn_grows
    (g.L.Log.state c.args.edge.now.log) (g.L.Log.state c.hear_clock.new.edge.log) (g.L.Log.state
    c.hear_requests.new.edge.log) (g.L.Log.state c.hear_lates.new.edge.log) (g.L.Log.state c.take_steps.new.edge.log)
    c.args.core.now c.hear_clock.new.core c.hear_requests.new.core c.hear_lates.new.core c.take_steps.new.core
    c.args.blocks.now c.hear_requests.new.blocks
    c.hear_clock.ensures.grows c.hear_requests.ensures.grows c.hear_lates.ensures.grows c.take_steps.ensures.grows
