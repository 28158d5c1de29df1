use Rattle.supervisor.proofs.Words.{rules, ◌≡◌, ◌∙◌, ◌≤◌, ◌+◌, refl, subst, true, false, false≢true, STEP_LIMIT, Tracks}
use Rattle.supervisor.proofs.Words.{CallsLead-weaken, AreSteps, FitsAndRestsIf, AreAllSteps, IsStepUnlessIdle}
use Rattle.supervisor.proofs.Words.{MakesOver}
use Rattle.supervisor.proofs.Words.{ExtendsLogFromCore-none, ExtendsLogFromCore-then}
use Rattle.supervisor.proofs.Parts.{MadeCallsLead-map, MadeCallsLead-none, MadeCallsLead-then, steps_all, steps_end}
use Rattle.supervisor.proofs.Parts.{steps_more}
use Rattle.supervisor.proofs.stepping.take_steps.Goals as goal

pub loop-made-init : goal.loop-made-init
loop-made-init g c = (
  MadeCallsLead-none g.L.Log.state c.args.edge.now.told (g.L.Log.state c.args.edge.now.log) (AreSteps c.args.strict 0)
      (Tracks c.args.core.now) refl,
  ExtendsLogFromCore-none c.args.core.now (g.L.Log.state c.args.edge.now.log),
  refl,
)

pub returns-then-take_step-clause-makes : goal.returns-then-take_step-clause-makes
returns-then-take_step-clause-makes g c =
    let told = c.loop-made.edge.told in
    let log = g.L.Log.state c.loop-made.edge.log in
    let now_told = c.take_step.new.edge.told in
    let now_log = g.L.Log.state c.take_step.new.edge.log in
    let before = Tracks c.args.core.now in
    let at = Tracks c.loop-made.core in
    let within : c.loop-made.made ≤ STEP_LIMIT = search rules in
    let last : c.take_step.result ≡ true = search rules in
    let one : MakesOver g.L.Log.state told now_told log now_log (IsStepUnlessIdle c.args.strict true)
    at (FitsAndRestsIf true (Tracks c.take_step.new.core)) =
    subst (λ b. MakesOver g.L.Log.state told now_told log now_log (IsStepUnlessIdle c.args.strict b)
    at (FitsAndRestsIf b (Tracks c.take_step.new.core))) last c.take_step.ensures.makes in
    MadeCallsLead-then g.L.Log.state c.args.edge.now.told told now_told (g.L.Log.state c.args.edge.now.log) log now_log
    (AreSteps c.args.strict c.loop-made.made) (IsStepUnlessIdle c.args.strict true)
    (AreAllSteps c.args.strict true) before
    at (FitsAndRestsIf true (Tracks c.take_step.new.core))
    (λ goal p fits. (c.take_step.ensures.grows (c.loop-made.invariant.1 fits.short).0).1)
    c.loop-made.invariant.0 one (λ xs ys steps none. steps_end c.args.strict c.loop-made.made xs ys within steps none)

pub loop-made-preserved : goal.loop-made-preserved
loop-made-preserved g c =
    let told = c.loop-made.edge.told in
    let log = g.L.Log.state c.loop-made.edge.log in
    let now_told = c.take_step.new.edge.told in
    let now_log = g.L.Log.state c.take_step.new.edge.log in
    let before = Tracks c.args.core.now in
    let at = Tracks c.loop-made.core in
    let new = Tracks c.take_step.new.core in
    let more : c.take_step.result ≡ false = search rules in
    let one : MakesOver g.L.Log.state told now_told log now_log (IsStepUnlessIdle c.args.strict false)
    at (FitsAndRestsIf false new) =
    subst (λ b. MakesOver g.L.Log.state told now_told log now_log (IsStepUnlessIdle c.args.strict b)
    at (FitsAndRestsIf b new))
    more c.take_step.ensures.makes in
    let step : MakesOver g.L.Log.state told now_told log now_log (IsStepUnlessIdle c.args.strict false) at new =
    MadeCallsLead-map g.L.Log.state told now_told log now_log (IsStepUnlessIdle c.args.strict false)
    (IsStepUnlessIdle c.args.strict false) at (FitsAndRestsIf false new) at new (λ goal p sound fits. fits) one
    (λ calls steps leads. (
      steps,
      CallsLead-weaken at
          at (FitsAndRestsIf false new) new log now_log calls (λ goal p fits. fits) (λ goal p fits. fits.0) leads,
    )) in (
      MadeCallsLead-then g.L.Log.state c.args.edge.now.told told now_told
          (g.L.Log.state c.args.edge.now.log) log now_log
          (AreSteps c.args.strict c.loop-made.made) (IsStepUnlessIdle c.args.strict false)
          (AreSteps c.args.strict (c.loop-made.made + 1)) before at new
          (λ goal p fits. (c.take_step.ensures.grows (c.loop-made.invariant.1 fits.short).0).1)
          c.loop-made.invariant.0 step (λ xs ys steps once. steps_more c.args.strict c.loop-made.made xs ys steps once),
      ExtendsLogFromCore-then c.args.core.now c.loop-made.core c.take_step.new.core (g.L.Log.state c.args.edge.now.log)
          (g.L.Log.state c.loop-made.edge.log)
          (g.L.Log.state c.take_step.new.edge.log) c.loop-made.invariant.1 c.take_step.ensures.grows,
      c.take_step.ensures.settings ∙ c.loop-made.invariant.2,
    )

pub returns-clause-makes : goal.returns-clause-makes
returns-clause-makes g c =
    let told = c.args.edge.now.told in
    let log = g.L.Log.state c.args.edge.now.log in
    let now_told = c.loop-made.edge.told in
    let now_log = g.L.Log.state c.loop-made.edge.log in
    let before = Tracks c.args.core.now in
    let new = Tracks c.loop-made.core in
    let all : c.loop-made.made ≡ STEP_LIMIT = search rules in
    MadeCallsLead-map g.L.Log.state told now_told log now_log (AreSteps c.args.strict c.loop-made.made) (AreAllSteps
    c.args.strict false) before new before (FitsAndRestsIf false new)
    (λ goal p sound fits. fits) c.loop-made.invariant.0
    (λ calls steps leads. (
      steps_all c.args.strict calls (subst (λ n. AreSteps c.args.strict n calls) all steps),
      CallsLead-weaken before before new (FitsAndRestsIf false new) log now_log calls (λ goal p fits. fits)
          (λ goal p fits. (fits, λ h. absurd (false≢true h))) leads,
    ))

pub returns-then-take_step-clause-grows : goal.returns-then-take_step-clause-grows
returns-then-take_step-clause-grows g c =
    ExtendsLogFromCore-then c.args.core.now c.loop-made.core c.take_step.new.core (g.L.Log.state c.args.edge.now.log)
    (g.L.Log.state c.loop-made.edge.log)
    (g.L.Log.state c.take_step.new.edge.log) c.loop-made.invariant.1 c.take_step.ensures.grows

pub returns-clause-grows : goal.returns-clause-grows
returns-clause-grows g c = c.loop-made.invariant.1
