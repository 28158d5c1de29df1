use Rattle.supervisor.proofs.Words.{rules, ◌≡◌, refl, Some, entry_of, Start, CallsLead-start, ExtendsLogFromCore-call}
use Rattle.init_words.specs.declared.orders.OrderKind.TheVariants as ask
use Rattle.supervisor.proofs.Carried.{MadeCallsLead-ordered}
use Rattle.supervisor.proofs.ordering.start.Goals as goal

pub returns-clause-makes : goal.returns-clause-makes
returns-clause-makes g c =
    let id = c.args.id in
    let core = c.args.core.now in
    let entry = c.in-Some.entry.now in
    let reply = c.start-reply.result in
    let old = g.L.Log.state c.args.edge.now.log in
    let new = g.L.Log.state c.hear_reply.new.edge.log in
    let own : entry_of id core.table ≡ Some entry = search rules in
    MadeCallsLead-ordered g.L.Log.state c.args.edge.now c.note.new.self c.start-reply.new.self c.hear_reply.new.edge
    core
    c.hear_reply.new.core (Start id c.command.result.now reply) id ask.Start reply
    c.note.ensures.told c.start-reply.ensures.adds c.start-reply.ensures.log c.hear_reply.ensures.told refl
    (λ so_far. refl) c.note.ensures.logs c.hear_reply.ensures.hears
    (λ hears.
    CallsLead-start core c.hear_reply.new.core old new id c.command.result.now reply entry own c.command.ensures hears)

pub returns-clause-grows : goal.returns-clause-grows
returns-clause-grows g c =
    ExtendsLogFromCore-call g.L.Log.state c.args.core.now c.hear_reply.new.core (g.L.Log.state c.args.edge.now.log)
    (g.L.Log.state c.hear_reply.new.edge.log) c.note.new.self.log c.start-reply.new.self.log
    c.start-reply.ensures.log (c.note.ensures.grows refl) c.hear_reply.ensures.grows
