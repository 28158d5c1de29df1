use Rattle.rclinks_command.proofs.Words.{◌≡◌, ◌+◌, ◌++◌, subst, take, drop}
use Rattle.rclinks_command.proofs.SkippingLemmas.{leaves_more}
use Rattle.rclinks_command.proofs.skipping.plan_rest.Goals as goal

pub returns-in_err-leave_out-clause-left : goal.returns-in_err-leave_out-clause-left
returns-in_err-leave_out-clause-left c =
    leaves_more c.args.reading.now.scripts.items c.loop-plan.reading.scripts.items c.leave_out.new.reading.scripts.items
    c.in-Err.fault c.in-Some.position c.loop-plan.invariant (rw c.as_slice.ensures.value at c.in-Err.ensures.refused)
    (rw c.as_slice-in-loop-plan.ensures.value at c.in-Some.ensures.fault)
    (subst (λ s. c.leave_out.new.reading.scripts.items
    ≡ take c.in-Some.position s.items
    ++ drop (c.in-Some.position + 1) s.items) c.tell_fault.ensures c.leave_out.ensures)

pub loop-plan-preserved-in_ok-leave_out : goal.loop-plan-preserved-in_ok-leave_out
loop-plan-preserved-in_ok-leave_out c =
    leaves_more c.args.reading.now.scripts.items c.loop-plan.reading.scripts.items c.leave_out.new.reading.scripts.items
    c.in-Err.fault c.in-Some.position c.loop-plan.invariant (rw c.as_slice.ensures.value at c.in-Err.ensures.refused)
    (rw c.as_slice-in-loop-plan.ensures.value at c.in-Some.ensures.fault)
    (subst (λ s. c.leave_out.new.reading.scripts.items
    ≡ take c.in-Some.position s.items
    ++ drop (c.in-Some.position + 1) s.items) c.tell_fault.ensures c.leave_out.ensures)

pub loop-plan-preserved-in_ok-leave_out-2 : goal.loop-plan-preserved-in_ok-leave_out-2
loop-plan-preserved-in_ok-leave_out-2 c =
    leaves_more c.args.reading.now.scripts.items c.loop-plan.reading.scripts.items c.leave_out.new.reading.scripts.items
    c.in-Err.fault c.in-Some.position c.loop-plan.invariant (rw c.as_slice.ensures.value at c.in-Err.ensures.refused)
    (rw c.as_slice-in-loop-plan.ensures.value at c.in-Some.ensures.fault)
    (subst (λ s. c.leave_out.new.reading.scripts.items
    ≡ take c.in-Some.position s.items
    ++ drop (c.in-Some.position + 1) s.items) c.tell_fault.ensures c.leave_out.ensures)

pub loop-plan-preserved-in_ok-leave_out-3 : goal.loop-plan-preserved-in_ok-leave_out-3
loop-plan-preserved-in_ok-leave_out-3 c =
    leaves_more c.args.reading.now.scripts.items c.loop-plan.reading.scripts.items c.leave_out.new.reading.scripts.items
    c.in-Err.fault c.in-Some.position c.loop-plan.invariant (rw c.as_slice.ensures.value at c.in-Err.ensures.refused)
    (rw c.as_slice-in-loop-plan.ensures.value at c.in-Some.ensures.fault)
    (subst (λ s. c.leave_out.new.reading.scripts.items
    ≡ take c.in-Some.position s.items
    ++ drop (c.in-Some.position + 1) s.items) c.tell_fault.ensures c.leave_out.ensures)
