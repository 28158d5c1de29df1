use Rattle.supervisor.proofs.Words.{refl, ◌∷◌, [], Announce, TookFirstDueStep, CallsLead, Tracks, CallsLead-not_handed}
use Rattle.supervisor.proofs.Words.{IsStep, kept_led}
use Rattle.supervisor.proofs.Words.{ExtendsLogFromCore-one}
use Rattle.trace_events.specs.declared.happenings.Handed.TheVariants as handed
use Rattle.trace_events.specs.declared.happenings.Happening.TheVariants as past
use Rattle.trace_events.specs.declared.steps.Step.TheVariants as step
use Rattle.supervisor.proofs.Lasting.{unhanded_lasts}
use Rattle.supervisor.proofs.Parts.{MadeCallsLead-one}
use Rattle.supervisor.proofs.reexecuting.not_handed.Goals as goal

pub returns-clause-makes : goal.returns-clause-makes
returns-clause-makes g c =
    let core = c.args.core.now in
    let new = c.not_handed.new.self in
    let log = c.tell.new.edge.log in
    let old = g.L.Log.state c.args.edge.now.log in
    let now = g.L.Log.state log in
    let happening = past.Handed handed.Failed in
    let before = TookFirstDueStep (Tracks core) step.Reexec in
    let leads : CallsLead before (Tracks new) old now (Announce happening ∷ []) =
    CallsLead-not_handed core new old now
    (λ goal so_far sound fits. c.not_handed.ensures.fits goal so_far sound fits handed.Failed)
    (unhanded_lasts core new c.not_handed.ensures.state) c.tell.ensures.log in
    MadeCallsLead-one g.L.Log.state c.args.edge.now.told c.tell.new.edge.told old now log
    (Announce happening) IsStep before
    (Tracks new)
    c.tell.ensures.said refl leads (kept_led before (Tracks new) old now happening [] leads)

pub returns-clause-grows : goal.returns-clause-grows
returns-clause-grows g c =
    let lasts = unhanded_lasts c.args.core.now c.not_handed.new.self c.not_handed.ensures.state in
    ExtendsLogFromCore-one c.args.core.now c.not_handed.new.self (g.L.Log.state c.args.edge.now.log)
    (g.L.Log.state c.tell.new.edge.log) lasts.short c.tell.ensures.grows
