use Rattle.supervisor.proofs.Words.{rules, ◌≡◌, refl, sym, subst, List, ◌∷◌, Ok, Err, Clock, Counted, Event, Hears}
use Rattle.supervisor.proofs.Words.{Logs, Tracks, clocked, Hears-none, Hears-told, Hears-tracks, CallsLead-clock}
use Rattle.supervisor.proofs.Words.{AddsStamped-same, IsReading, MakesOver, kept_still, Grows-none, ExtendsLogFromCore}
use Rattle.supervisor.proofs.Words.{ExtendsLogFromCore-call, ExtendsLogFromCore-none, ExtendsLogFromCore-one}
use Rattle.trace_events.specs.declared.happenings.Happening.TheVariants as past
use Rattle.supervisor.proofs.Lasting.{clock_lasts}
use Rattle.supervisor.proofs.Parts.{MadeCallsLead-one}
use Rattle.supervisor.proofs.hearing.hear_clock.Goals as goal

pub returns-in-Ok-clause-makes : goal.returns-in-Ok-clause-makes
returns-in-Ok-clause-makes g c =
    let core = c.args.core.now in
    let behind = c.clock-in-Ok.new.self in
    let log = c.args.edge.now.log in
    let old = g.L.Log.state log in
    let new = g.L.Log.state c.note.new.self.log in
    let told = c.args.edge.now.told in
    let is : c.clock.result ≡ Ok c.in-Ok.reading = search rules in
    let logs : (so_far : List Event) → Logs old new so_far (past.Clock c.in-Ok.reading ∷ so_far) =
    subst (λ l. (so_far : List Event) → Logs (g.L.Log.state l) new so_far (past.Clock c.in-Ok.reading ∷ so_far))
    c.clock.ensures.log c.note.ensures.logs in
    MadeCallsLead-one g.L.Log.state told c.note.new.self.told old new log (Clock c.clock.result) IsReading (Tracks core)
    (λ goal p. Tracks behind goal p × Counted 0 goal p)
    (AddsStamped-same told told c.clock.new.self.told c.note.new.self.told
    (Clock c.clock.result) log refl c.note.ensures.told c.clock.ensures.adds) (c.clock.result, refl)
    (CallsLead-clock core behind old new c.clock.result
    (subst (λ r. Hears (Tracks core) (Tracks behind) old new (clocked r)) (sym is)
    (Hears-tracks core behind old new (clocked (Ok c.in-Ok.reading))
    (clock_lasts core behind c.in-Ok.reading c.clock-in-Ok.ensures.state)
    (Hears-told core behind old new (past.Clock c.in-Ok.reading) refl c.clock-in-Ok.ensures.fits logs))))
    (kept_still (Tracks core) old (Clock c.clock.result) (λ so_far. refl))

pub returns-in_default-clause-makes : goal.returns-in_default-clause-makes
returns-in_default-clause-makes g c =
    let core = c.args.core.now in
    let log = c.args.edge.now.log in
    let old = g.L.Log.state log in
    let told = c.args.edge.now.told in
    let now_told = c.clock.new.self.told in
    let is : c.clock.result ≡ Err c.in_default.field-0 = search rules in
    subst (λ l. MakesOver g.L.Log.state told now_told old (g.L.Log.state l) IsReading (Tracks core)
    (λ goal p. Tracks core goal p × Counted 0 goal p)) (sym c.clock.ensures.log)
    (MadeCallsLead-one g.L.Log.state told now_told old old log (Clock c.clock.result) IsReading (Tracks core)
    (λ goal p. Tracks core goal p × Counted 0 goal p) c.clock.ensures.adds (c.clock.result, refl)
    (CallsLead-clock core core old old c.clock.result
    (subst (λ r. Hears (Tracks core) (Tracks core) old old (clocked r)) (sym is) (Hears-none (Tracks core) old)))
    (kept_still (Tracks core) old (Clock c.clock.result) (λ so_far. refl)))

pub returns-in-Ok-clause-grows : goal.returns-in-Ok-clause-grows
returns-in-Ok-clause-grows g c =
    let lasts = clock_lasts c.args.core.now c.clock-in-Ok.new.self c.in-Ok.reading c.clock-in-Ok.ensures.state in
    let old = g.L.Log.state c.args.edge.now.log in
    let new = g.L.Log.state c.note.new.self.log in
    ExtendsLogFromCore-call g.L.Log.state c.args.core.now c.clock-in-Ok.new.self old new c.args.edge.now.log
    c.clock.new.self.log
    c.clock.ensures.log (Grows-none old)
    (ExtendsLogFromCore-one c.args.core.now c.clock-in-Ok.new.self (g.L.Log.state c.clock.new.self.log) new lasts.short
    (c.note.ensures.grows refl))

pub returns-in_default-clause-grows : goal.returns-in_default-clause-grows
returns-in_default-clause-grows g c =
    let old = g.L.Log.state c.args.edge.now.log in
    subst (λ l. ExtendsLogFromCore c.args.core.now c.args.core.now old (g.L.Log.state l)) (sym c.clock.ensures.log)
    (ExtendsLogFromCore-none c.args.core.now old)
