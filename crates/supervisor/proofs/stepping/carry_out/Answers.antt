use Rattle.supervisor.proofs.Words.{rules, ◌≡◌, refl, sym, ap, ◌∙◌, first_is, IsReread, IsStep, ExtendsLogFromCore-none}
use Rattle.supervisor.proofs.Words.{ExtendsLogFromCore-one, is_short_step}
use Rattle.trace_events.specs.declared.happenings.Happening.TheVariants as past
use Rattle.trace_events.specs.declared.steps.Step.TheVariants as step
use Rattle.supervisor.proofs.Carried.{MadeCallsLead-idle, MadeCallsLead-said, MadeCallsLead-unless, is_kept, is_read}
use Rattle.supervisor.proofs.stepping.carry_out.Goals as goal

pub returns-in-Enter-clause-makes : goal.returns-in-Enter-clause-makes
returns-in-Enter-clause-makes g c =
    let is : c.args.step.now ≡ step.Enter c.in-Enter.stage c.in-Enter.grace = search rules in
    MadeCallsLead-said g.L.Log.state c.args.strict c.args.edge.now.told c.tell.new.edge.told
    (g.L.Log.state c.args.edge.now.log)
    (g.L.Log.state c.tell.new.edge.log) c.args.core.now c.args.step.now (step.Enter c.in-Enter.stage c.in-Enter.grace)
    (past.Enter c.in-Enter.stage c.in-Enter.grace)
    is refl (record {
      step = λ so_far. refl;
      said = refl;
      position =
          λ goal earlier so_far due_now. first_is goal so_far (step.Enter c.in-Enter.stage c.in-Enter.grace) due_now;
    }) c.tell.ensures.makes

pub returns-in-Call-clause-makes : goal.returns-in-Call-clause-makes
returns-in-Call-clause-makes g c =
    let is : c.args.step.now ≡ step.Call c.in-Call.letter = search rules in
    MadeCallsLead-said g.L.Log.state c.args.strict c.args.edge.now.told c.tell-in-Call.new.edge.told
    (g.L.Log.state c.args.edge.now.log) (g.L.Log.state c.tell-in-Call.new.edge.log) c.args.core.now c.args.step.now
    (step.Call c.in-Call.letter) (past.Call c.in-Call.letter)
    is refl (record {
      step = λ so_far. refl;
      said = refl;
      position = λ goal earlier so_far due_now. first_is goal so_far (step.Call c.in-Call.letter) due_now;
    }) c.tell-in-Call.ensures.makes

pub returns-in-Power-clause-makes : goal.returns-in-Power-clause-makes
returns-in-Power-clause-makes g c =
    let is : c.args.step.now ≡ step.Power c.in-Power.kind = search rules in
    MadeCallsLead-said g.L.Log.state c.args.strict c.args.edge.now.told c.tell-in-Power.new.edge.told
    (g.L.Log.state c.args.edge.now.log) (g.L.Log.state c.tell-in-Power.new.edge.log) c.args.core.now c.args.step.now
    (step.Power c.in-Power.kind) (past.Power c.in-Power.kind)
    is refl (record {
      step = λ so_far. refl;
      said = refl;
      position = λ goal earlier so_far due_now. first_is goal so_far (step.Power c.in-Power.kind) due_now;
    }) c.tell-in-Power.ensures.makes

pub returns-in-Hold-clause-makes : goal.returns-in-Hold-clause-makes
returns-in-Hold-clause-makes g c =
    let is : c.args.step.now ≡ step.Hold c.in-Hold.id = search rules in
    MadeCallsLead-said g.L.Log.state c.args.strict c.args.edge.now.told c.tell-in-Hold.new.edge.told
    (g.L.Log.state c.args.edge.now.log) (g.L.Log.state c.tell-in-Hold.new.edge.log) c.args.core.now c.args.step.now
    (step.Hold c.in-Hold.id) (past.Hold c.in-Hold.id)
    is refl (record {
      step = λ so_far. refl;
      said = refl;
      position = λ goal earlier so_far due_now. first_is goal so_far (step.Hold c.in-Hold.id) due_now;
    }) c.tell-in-Hold.ensures.makes

pub returns-in-Settle-clause-makes : goal.returns-in-Settle-clause-makes
returns-in-Settle-clause-makes g c =
    let is : c.args.step.now ≡ step.Settle c.in-Settle.level = search rules in
    MadeCallsLead-said g.L.Log.state c.args.strict c.args.edge.now.told c.tell-in-Settle.new.edge.told
    (g.L.Log.state c.args.edge.now.log) (g.L.Log.state c.tell-in-Settle.new.edge.log) c.args.core.now c.args.step.now
    (step.Settle c.in-Settle.level) (past.Settle c.in-Settle.level)
    is refl (record {
      step = λ so_far. refl;
      said = refl;
      position = λ goal earlier so_far due_now. first_is goal so_far (step.Settle c.in-Settle.level) due_now;
    }) c.tell-in-Settle.ensures.makes

pub returns-in-Idle-clause-makes : goal.returns-in-Idle-clause-makes
returns-in-Idle-clause-makes g c =
    let is : c.args.step.now ≡ step.Idle = search rules in
    MadeCallsLead-idle g.L.Log.state c.args.strict c.args.edge.now.told
    (g.L.Log.state c.args.edge.now.log) c.args.core.now c.args.step.now is

pub returns-in-Order-clause-makes : goal.returns-in-Order-clause-makes
returns-in-Order-clause-makes g c =
    let is : c.args.step.now ≡ step.Order c.in-Order.id c.in-Order.ask = search rules in
    MadeCallsLead-unless g.L.Log.state c.args.strict c.args.edge.now.told c.order.new.edge.told
    (g.L.Log.state c.args.edge.now.log) (g.L.Log.state c.order.new.edge.log) c.args.core.now c.order.new.core
    c.args.step.now (step.Order c.in-Order.id c.in-Order.ask) IsStep (is_kept c.args.strict)
    is refl c.order.ensures.makes

pub returns-in-Reread-clause-makes : goal.returns-in-Reread-clause-makes
returns-in-Reread-clause-makes g c =
    let is : c.args.step.now ≡ step.Reread = search rules in
    MadeCallsLead-unless g.L.Log.state c.args.strict c.args.edge.now.told c.reread.new.edge.told
    (g.L.Log.state c.args.edge.now.log) (g.L.Log.state c.reread.new.edge.log) c.args.core.now c.reread.new.core
    c.args.step.now step.Reread (IsReread c.args.strict) (is_read c.args.strict)
    is refl c.reread.ensures.makes

pub returns-in-Reexec-clause-makes : goal.returns-in-Reexec-clause-makes
returns-in-Reexec-clause-makes g c =
    let is : c.args.step.now ≡ step.Reexec = search rules in
    MadeCallsLead-unless g.L.Log.state c.args.strict c.args.edge.now.told c.reexec.new.edge.told
    (g.L.Log.state c.args.edge.now.log) (g.L.Log.state c.reexec.new.edge.log) c.args.core.now c.reexec.new.core
    c.args.step.now step.Reexec IsStep (is_kept c.args.strict)
    is refl c.reexec.ensures.makes

pub returns-in-Enter-clause-grows : goal.returns-in-Enter-clause-grows
returns-in-Enter-clause-grows g c short =
    let is : c.args.step.now ≡ step.Enter c.in-Enter.stage c.in-Enter.grace = search rules in
    ExtendsLogFromCore-one c.args.core.now c.args.core.now (g.L.Log.state c.args.edge.now.log)
    (g.L.Log.state c.tell.new.edge.log)
    (λ seconds. seconds) (c.tell.ensures.grows (sym (ap is_short_step is) ∙ short))

pub returns-in-Call-clause-grows : goal.returns-in-Call-clause-grows
returns-in-Call-clause-grows g c short =
    ExtendsLogFromCore-one c.args.core.now c.args.core.now (g.L.Log.state c.args.edge.now.log)
    (g.L.Log.state c.tell-in-Call.new.edge.log) (λ seconds. seconds) (c.tell-in-Call.ensures.grows refl)

pub returns-in-Power-clause-grows : goal.returns-in-Power-clause-grows
returns-in-Power-clause-grows g c short =
    ExtendsLogFromCore-one c.args.core.now c.args.core.now (g.L.Log.state c.args.edge.now.log)
    (g.L.Log.state c.tell-in-Power.new.edge.log) (λ seconds. seconds) (c.tell-in-Power.ensures.grows refl)

pub returns-in-Hold-clause-grows : goal.returns-in-Hold-clause-grows
returns-in-Hold-clause-grows g c short =
    ExtendsLogFromCore-one c.args.core.now c.args.core.now (g.L.Log.state c.args.edge.now.log)
    (g.L.Log.state c.tell-in-Hold.new.edge.log) (λ seconds. seconds) (c.tell-in-Hold.ensures.grows refl)

pub returns-in-Settle-clause-grows : goal.returns-in-Settle-clause-grows
returns-in-Settle-clause-grows g c short =
    ExtendsLogFromCore-one c.args.core.now c.args.core.now (g.L.Log.state c.args.edge.now.log)
    (g.L.Log.state c.tell-in-Settle.new.edge.log) (λ seconds. seconds) (c.tell-in-Settle.ensures.grows refl)

pub returns-in-Idle-clause-grows : goal.returns-in-Idle-clause-grows
returns-in-Idle-clause-grows g c short = ExtendsLogFromCore-none c.args.core.now (g.L.Log.state c.args.edge.now.log)
