use Rattle.supervisor.proofs.Words.{rules, ◌≡◌, refl, sym, subst, List, ◌∷◌, [], false, FitsExtendedTrace, Announce}
use Rattle.supervisor.proofs.Words.{ReadTables}
use Rattle.supervisor.proofs.Words.{ForAllFittedTraces, Event, TookFirstDueStep, KeepsSecondsAndGeneration, CallsLead}
use Rattle.supervisor.proofs.Words.{Logs, Tracks, CallsLead-not_read}
use Rattle.supervisor.proofs.Words.{AddsStamped-same, IsReread, MakesOver, kept_led, kept_still, ExtendsLogFromCore}
use Rattle.supervisor.proofs.Words.{ExtendsLogFromCore-one}
use Rattle.supervisor.proofs.Words.{ExtendsLogFromCore-then}
use Rattle.trace_events.specs.declared.happenings.Happening.TheVariants as past
use Rattle.trace_events.specs.declared.steps.Step.TheVariants as step
use Rattle.supervisor.proofs.Parts.{MadeCallsLead-two}
use Rattle.supervisor.proofs.Lasting.{unread_lasts}
use Rattle.supervisor.proofs.rereading.reread.Goals as goal

pub returns-clause-makes : goal.returns-clause-makes
returns-clause-makes g c =
    let core = c.args.core.now in
    let new = c.not_read.new.self in
    let log = c.args.edge.now.log in
    let now_log = c.write.new.self.log in
    let old = g.L.Log.state log in
    let now = g.L.Log.state now_log in
    let told = c.args.edge.now.told in
    let mid_told = c.use_table.new.edge.told in
    let now_told = c.announce.new.self.told in
    let failed : c.use_table.result ≡ false = search rules in
    let read = c.use_table.ensures.read failed in
    let before = TookFirstDueStep (Tracks core) step.Reread in
    let leads : CallsLead before (Tracks new) old now (Announce past.NotRead ∷ ReadTables read.0 ∷ []) =
    CallsLead-not_read core new old now read.0
    (subst (λ s. ForAllFittedTraces s (λ goal so_far. FitsExtendedTrace s new goal so_far (past.NotRead ∷ so_far)))
    (c.use_table.ensures.core failed) c.not_read.ensures.fits)
    (subst (λ s. KeepsSecondsAndGeneration s new) (c.use_table.ensures.core failed)
    (unread_lasts c.use_table.new.core new c.not_read.ensures.state))
    (subst (λ l. (so_far : List Event) → Logs (g.L.Log.state l) now so_far (past.NotRead ∷ so_far))
    (c.use_table.ensures.log failed) c.write.ensures.logs) in
    subst (λ l. MakesOver g.L.Log.state told now_told old (g.L.Log.state l) (IsReread c.args.strict) before
    (Tracks new)) (sym c.announce.ensures.log)
    (MadeCallsLead-two g.L.Log.state told mid_told now_told old now log now_log (ReadTables read.0)
    (Announce past.NotRead)
    (IsReread c.args.strict) before (Tracks new)
    refl read.1 (AddsStamped-same mid_told c.write.new.self.told now_told now_told
    (Announce past.NotRead) now_log c.write.ensures.told refl c.announce.ensures.adds) refl leads
    (kept_still before old (ReadTables read.0) (λ so_far. refl))
    (kept_led before (Tracks new) old now past.NotRead (ReadTables read.0 ∷ []) leads))

pub returns-clause-grows : goal.returns-clause-grows
returns-clause-grows g c =
    let lasts = unread_lasts c.use_table.new.core c.not_read.new.self c.not_read.ensures.state in
    let old = g.L.Log.state c.args.edge.now.log in
    let mid = g.L.Log.state c.use_table.new.edge.log in
    let now = g.L.Log.state c.write.new.self.log in
    subst (λ l. ExtendsLogFromCore c.args.core.now c.not_read.new.self old (g.L.Log.state l))
    (sym c.announce.ensures.log)
    (ExtendsLogFromCore-then c.args.core.now c.use_table.new.core c.not_read.new.self old mid now
    c.use_table.ensures.grows
    (ExtendsLogFromCore-one c.use_table.new.core c.not_read.new.self mid now lasts.short (c.write.ensures.grows refl)))
