use Rattle.supervisor.proofs.Words.{◌∙◌, sym, ap, subst, Tracks, FitsAndRestsIf, IsStepUnlessIdle, MakesOver, is_listed}
use Rattle.supervisor.proofs.Words.{is_short_step}
use Rattle.supervisor.proofs.Carried.{MadeCallsLead-stepped}
use Rattle.supervisor.proofs.Listed.{decide_listed, table_kept}
use Rattle.supervisor.proofs.Lasting.{step_lasts}
use Rattle.supervisor.proofs.Grown.{decide_short}
use Rattle.supervisor.proofs.stepping.take_step.Goals as goal

pub carry_out-requires : goal.carry_out-requires
carry_out-requires g c =
    ap (λ s. is_listed s.table c.next-step.result) c.next-step.ensures.state
    ∙ ap (λ table. is_listed table c.next-step.result) (table_kept c.next-step.result c.args.core.now)
    ∙ ap (is_listed c.args.core.now.table) c.next-step.ensures.step
    ∙ decide_listed c.args.core.now

pub returns-clause-makes : goal.returns-clause-makes
returns-clause-makes g c =
    let told = c.args.edge.now.told in
    let now_told = c.carry_out.new.edge.told in
    let log = g.L.Log.state c.args.edge.now.log in
    let now_log = g.L.Log.state c.carry_out.new.edge.log in
    subst (λ idle. MakesOver g.L.Log.state told now_told log now_log (IsStepUnlessIdle c.args.strict idle)
    (Tracks c.args.core.now) (FitsAndRestsIf idle (Tracks c.carry_out.new.core))) (sym c.is_idle.ensures)
    (MadeCallsLead-stepped g.L.Log.state c.args.strict told now_told log now_log c.args.core.now c.next-step.new.self
    c.carry_out.new.core c.next-step.result c.next-step.ensures.due c.next-step.ensures.fits
    (step_lasts c.args.core.now c.next-step.new.self c.next-step.result c.next-step.ensures.step
    c.next-step.ensures.state) c.carry_out.ensures.makes)

pub returns-clause-grows : goal.returns-clause-grows
returns-clause-grows g c short =
    let lasts = step_lasts c.args.core.now c.next-step.new.self c.next-step.result c.next-step.ensures.step
    c.next-step.ensures.state in
    c.carry_out.ensures.grows (ap is_short_step c.next-step.ensures.step ∙ decide_short c.args.core.now short)
    (lasts.short short)
