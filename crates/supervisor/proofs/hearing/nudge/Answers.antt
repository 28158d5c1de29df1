use Rattle.supervisor.proofs.Words.{refl, ◌∷◌, Hears-told, Hears-tracks, ExtendsLogFromCore-one}
use Rattle.trace_events.specs.declared.happenings.Happening.TheVariants as past
use Rattle.supervisor.proofs.Lasting.{round_lasts}
use Rattle.supervisor.proofs.hearing.nudge.Goals as goal

pub returns-clause-hears : goal.returns-clause-hears
returns-clause-hears g c =
    let core = c.args.core.now in
    let new = c.nudge.new.self in
    let old = g.L.Log.state c.args.edge.now.log in
    let now = g.L.Log.state c.note.new.self.log in
    Hears-tracks core new old now (λ so_far. past.Nudge ∷ so_far) (round_lasts core new c.nudge.ensures.state)
    (Hears-told core new old now past.Nudge refl c.nudge.ensures.fits c.note.ensures.logs)

pub returns-clause-grows : goal.returns-clause-grows
returns-clause-grows g c =
    let lasts = round_lasts c.args.core.now c.nudge.new.self c.nudge.ensures.state in
    ExtendsLogFromCore-one c.args.core.now c.nudge.new.self (g.L.Log.state c.args.edge.now.log)
    (g.L.Log.state c.note.new.self.log) lasts.short (c.note.ensures.grows refl)
