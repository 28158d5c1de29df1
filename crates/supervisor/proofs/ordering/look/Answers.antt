use Rattle.supervisor.proofs.Words.{refl, Look, TookFirstDueStep, Tracks, ordered, first_is, CallsLead-heard}
use Rattle.supervisor.proofs.Words.{ExtendsLogFromCore-call}
use Rattle.init_words.specs.declared.orders.OrderKind.TheVariants as ask
use Rattle.trace_events.specs.declared.steps.Step.TheVariants as step
use Rattle.supervisor.proofs.Carried.{MadeCallsLead-ordered}
use Rattle.supervisor.proofs.ordering.look.Goals as goal

pub returns-clause-makes : goal.returns-clause-makes
returns-clause-makes g c =
    let id = c.args.id in
    let core = c.args.core.now in
    let reply = c.look-reply.result in
    let old = g.L.Log.state c.args.edge.now.log in
    let new = g.L.Log.state c.hear_reply.new.edge.log in
    MadeCallsLead-ordered g.L.Log.state c.args.edge.now c.note.new.self c.look-reply.new.self c.hear_reply.new.edge core
    c.hear_reply.new.core (Look id reply) id ask.Look reply
    c.note.ensures.told c.look-reply.ensures.adds c.look-reply.ensures.log c.hear_reply.ensures.told refl
    (λ so_far. refl) c.note.ensures.logs c.hear_reply.ensures.hears
    (λ hears. CallsLead-heard (TookFirstDueStep (Tracks core) (step.Order id ask.Look))
    (Tracks c.hear_reply.new.core) old new
    (Look id reply) (ordered id ask.Look reply) hears
    (λ p. refl) (λ goal p sound gave. first_is goal p.past (step.Order id ask.Look) gave.0) (λ goal p. tt))

pub returns-clause-grows : goal.returns-clause-grows
returns-clause-grows g c =
    ExtendsLogFromCore-call g.L.Log.state c.args.core.now c.hear_reply.new.core (g.L.Log.state c.args.edge.now.log)
    (g.L.Log.state c.hear_reply.new.edge.log) c.note.new.self.log c.look-reply.new.self.log
    c.look-reply.ensures.log (c.note.ensures.grows refl) c.hear_reply.ensures.grows
