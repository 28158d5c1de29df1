use Rattle.supervisor.proofs.Words.{refl, subst, List, ◌∷◌, Asked, Event, Signal, TookFirstDueStep, Logs, Tracks}
use Rattle.supervisor.proofs.Words.{order_for}
use Rattle.supervisor.proofs.Words.{ordered, first_is, CallsLead-heard, ExtendsLogFromCore-call}
use Rattle.trace_events.specs.declared.steps.Step.TheVariants as step
use Rattle.supervisor.proofs.Carried.{MadeCallsLead-ordered}
use Rattle.supervisor.proofs.ordering.signal.Goals as goal

pub returns-clause-makes : goal.returns-clause-makes
returns-clause-makes g c =
    let id = c.args.id in
    let core = c.args.core.now in
    let reply = c.signal-reply.result in
    let ask = order_for c.args.sent in
    let old = g.L.Log.state c.args.edge.now.log in
    let new = g.L.Log.state c.hear_reply.new.edge.log in
    MadeCallsLead-ordered g.L.Log.state c.args.edge.now c.note.new.self c.signal-reply.new.self c.hear_reply.new.edge
    core
    c.hear_reply.new.core (Signal id c.args.sent reply) id ask reply
    c.note.ensures.told c.signal-reply.ensures.adds c.signal-reply.ensures.log c.hear_reply.ensures.told refl
    (λ so_far. refl)
    (subst (λ order. (so_far : List Event) → Logs old (g.L.Log.state c.note.new.self.log) so_far
    (Asked id order ∷ so_far)) c.order_for.ensures c.note.ensures.logs) c.hear_reply.ensures.hears
    (λ hears. CallsLead-heard (TookFirstDueStep (Tracks core) (step.Order id ask))
    (Tracks c.hear_reply.new.core) old new
    (Signal id c.args.sent reply) (ordered id ask reply) hears
    (λ p. refl) (λ goal p sound gave. first_is goal p.past (step.Order id ask) gave.0) (λ goal p. tt))

pub returns-clause-grows : goal.returns-clause-grows
returns-clause-grows g c =
    ExtendsLogFromCore-call g.L.Log.state c.args.core.now c.hear_reply.new.core (g.L.Log.state c.args.edge.now.log)
    (g.L.Log.state c.hear_reply.new.edge.log) c.note.new.self.log c.signal-reply.new.self.log
    c.signal-reply.ensures.log (c.note.ensures.grows refl) c.hear_reply.ensures.grows
