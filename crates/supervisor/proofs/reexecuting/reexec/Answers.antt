use Rattle.supervisor.proofs.Words.{rules, ◌≡◌, subst, ap, ◌∙◌, List, ◌∷◌, Event, Logs, state_of, IsFit, V2, IsTextIn}
use Rattle.supervisor.proofs.Words.{TookFirstDueStep, Tracks, IsStep, MakesOver, has_short_seconds, Grows-none}
use Rattle.supervisor.proofs.Words.{ExtendsLogFromCore}
use Rattle.supervisor.proofs.Words.{ExtendsLogFromCore-call, ExtendsLogFromCore-one}
use Rattle.trace_events.specs.declared.happenings.Happening.TheVariants.{Handed}
use Rattle.trace_events.specs.declared.steps.Step.TheVariants as step
use Rattle.supervisor.proofs.HandOvers.{MadeCallsLead-carried}
use Rattle.supervisor.proofs.reexecuting.reexec.Goals as goal

pub returns-clause-makes : goal.returns-clause-makes
returns-clause-makes g c =
    let (back, adds, comes) = c.carry-how.ensures.comes in
    let next = c.hand_over.new.core in
    let is : c.in-Ok.text.items ≡ c.deref.result.now = search rules in
    let log = c.args.edge.now.log in
    let now = c.tell.new.edge.log in
    MadeCallsLead-carried g.L.Log.state c.args.edge.now.told c.carry-how.new.edge.told c.tell.new.edge.told log now
    c.args.core.now next c.carry-how.new.core c.carry-how.result c.deref.result.now back adds c.tell.ensures.said
    c.in-Ok.ensures.state c.in-Ok.ensures.fits
    (λ short. subst (λ text. IsTextIn V2 text (state_of next) × IsFit next) is (c.in-Ok.ensures.said short)) comes
    (subst (λ l. (so_far : List Event) → Logs (g.L.Log.state l) (g.L.Log.state now) so_far
    (Handed c.carry-how.result ∷ so_far)) c.carry-how.ensures.log c.tell.ensures.log)

-- no text was made, and nothing was changed
pub returns-in_default-clause-makes : goal.returns-in_default-clause-makes
returns-in_default-clause-makes g c =
    let same : c.hand_over.new.core ≡ c.args.core.now = search rules in
    subst (λ core. MakesOver g.L.Log.state c.args.edge.now.told c.not_handed.new.edge.told
    (g.L.Log.state c.args.edge.now.log) (g.L.Log.state c.not_handed.new.edge.log) IsStep
    (TookFirstDueStep (Tracks core) step.Reexec) (Tracks c.not_handed.new.core)) same c.not_handed.ensures.makes

pub returns-clause-grows : goal.returns-clause-grows
returns-clause-grows g c =
    let old = g.L.Log.state c.args.edge.now.log in
    let now = g.L.Log.state c.tell.new.edge.log in
    ExtendsLogFromCore-call g.L.Log.state c.args.core.now c.carry-how.new.core old now c.args.edge.now.log
    c.carry-how.new.edge.log
    c.carry-how.ensures.log (Grows-none old)
    (ExtendsLogFromCore-one c.args.core.now c.carry-how.new.core (g.L.Log.state c.carry-how.new.edge.log) now
    (λ short. c.carry-how.ensures.short (ap has_short_seconds c.in-Ok.ensures.state ∙ short)) c.tell.ensures.grows)

pub returns-in_default-clause-grows : goal.returns-in_default-clause-grows
returns-in_default-clause-grows g c =
    let same : c.hand_over.new.core ≡ c.args.core.now = search rules in
    subst (λ core. ExtendsLogFromCore core c.not_handed.new.core (g.L.Log.state c.args.edge.now.log)
    (g.L.Log.state c.not_handed.new.edge.log)) same c.not_handed.ensures.grows
