use Rattle.supervisor.proofs.Words.{rules, ◌≡◌, refl, sym, ap, ◌∙◌, subst, true, and_parts, may_take, List, ◌∷◌, [], Ok}
use Rattle.supervisor.proofs.Words.{NewTable, ReadTables, parts_read, Event, TookFirstDueStep, CallsLead, Logs, Tracks}
use Rattle.supervisor.proofs.Words.{CallsLead-used}
use Rattle.supervisor.proofs.Words.{AddsStamped-same, IsReread, kept_still, Grows-none, ExtendsLogFromCore-call}
use Rattle.init_words.specs.Parts.{texts_of}
use Rattle.inittab_text.specs.Parts.{are_readable, table_of_texts}
use Rattle.trace_events.specs.declared.steps.Step.TheVariants as step
use Rattle.supervisor.proofs.Parts.{MadeCallsLead-one}
use Rattle.supervisor.proofs.rereading.use_table.Goals as goal

pub returns-clause-used : goal.returns-clause-used
returns-clause-used g c took =
    let core = c.args.core.now in
    let new = c.use_parts.new.core in
    let log = c.args.edge.now.log in
    let old = g.L.Log.state log in
    let now = g.L.Log.state c.use_parts.new.edge.log in
    let told = c.args.edge.now.told in
    let now_told = c.use_parts.new.edge.told in
    let parts = parts_read (λ held. held.items) c.read_tables.result in
    let is : parts ≡ Ok c.deref.result.now = search rules in
    let taken : may_take c.args.strict (Ok c.deref.result.now) ≡ true = c.use_parts.ensures.taken took in
    let before = TookFirstDueStep (Tracks core) step.Reread in
    MadeCallsLead-one g.L.Log.state told now_told old now log (ReadTables parts) (IsReread c.args.strict) before
    (Tracks new)
    (AddsStamped-same told told c.read_tables.new.self.told now_told (ReadTables parts) log refl
    c.use_parts.ensures.told c.read_tables.ensures.adds) (ap (may_take c.args.strict) is ∙ taken)
    (subst (λ t. CallsLead before (Tracks new) old now (ReadTables t ∷ [])) (sym is)
    (CallsLead-used core new old now c.deref.result.now
    (and_parts (are_readable (texts_of c.deref.result.now)) _ taken).0
    (c.use_parts.ensures.quiet took) (c.use_parts.ensures.fits took) (c.use_parts.ensures.lasts took)
    (subst (λ l. (so_far : List Event) → Logs (g.L.Log.state l) now so_far (NewTable (table_of_texts
    (texts_of c.deref.result.now)) ∷ so_far)) c.read_tables.ensures.log (c.use_parts.ensures.took took))))
    (kept_still before old (ReadTables parts) (λ so_far. refl))

pub returns-clause-grows : goal.returns-clause-grows
returns-clause-grows g c =
    let old = g.L.Log.state c.args.edge.now.log in
    ExtendsLogFromCore-call g.L.Log.state c.args.core.now c.use_parts.new.core old
    (g.L.Log.state c.use_parts.new.edge.log)
    c.args.edge.now.log c.read_tables.new.self.log c.read_tables.ensures.log (Grows-none old) c.use_parts.ensures.grows
