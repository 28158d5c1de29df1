use Rattle.supervisor.proofs.Words.{refl, ◌∷◌, Hears-told, Hears-tracks, ExtendsLogFromCore-one}
use Rattle.trace_events.specs.declared.happenings.Happening.TheVariants as past
use Rattle.supervisor.proofs.Lasting.{request_lasts}
use Rattle.supervisor.proofs.hearing.hear_request.Goals as goal

pub returns-clause-hears : goal.returns-clause-hears
returns-clause-hears g c asks =
    let core = c.args.core.now in
    let new = c.got.new.self in
    let old = g.L.Log.state c.args.edge.now.log in
    let now = g.L.Log.state c.note.new.self.log in
    Hears-tracks core new old now (λ so_far. past.Got c.args.request ∷ so_far)
    (request_lasts core new c.args.request asks c.got.ensures.state)
    (Hears-told core new old now (past.Got c.args.request) refl c.got.ensures.fits
    c.note.ensures.logs)

pub returns-clause-grows : goal.returns-clause-grows
returns-clause-grows g c asks =
    let lasts = request_lasts c.args.core.now c.got.new.self c.args.request asks c.got.ensures.state in
    let old = g.L.Log.state c.args.edge.now.log in
    let new = g.L.Log.state c.note.new.self.log in
    ExtendsLogFromCore-one c.args.core.now c.got.new.self old new lasts.short (c.note.ensures.grows asks)
