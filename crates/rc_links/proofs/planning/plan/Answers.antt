use Rattle.rc_links.proofs.Words.{IsProvided}
use Rattle.rc_links.proofs.NameLemmas.{err_and}
use Rattle.rc_links.proofs.PlanLemmas.{plan_made, refused-deep, refused-start, refused-stop}
use Rattle.rc_links.proofs.planning.plan.Goals as goal

pub returns-in_err-starts-clause-refused : goal.returns-in_err-starts-clause-refused
returns-in_err-starts-clause-refused g c =
    let provided : IsProvided c.args.scripts.now =
    record { single = c.in_ok-table.ensures.single; whole = c.in_ok-check_missing.ensures.whole } in
    let f = c.in_err-starts.field-0.0 in
    err_and c.from_residual-in_err-starts.result f _ c.from_residual-in_err-starts.ensures.1
    (refused-start c.args.scripts.now f provided c.in_err-starts.ensures.round)

pub returns-in_err-stops-clause-refused : goal.returns-in_err-stops-clause-refused
returns-in_err-stops-clause-refused g c =
    let provided : IsProvided c.args.scripts.now =
    record { single = c.in_ok-table.ensures.single; whole = c.in_ok-check_missing.ensures.whole } in
    let f = c.in_err-stops.field-0.0 in
    err_and c.from_residual-in_err-stops.result f _ c.from_residual-in_err-stops.ensures.1 (refused-stop
    c.args.scripts.now c.in_ok-starts.starts.items f provided c.in_ok-starts.ensures.least c.in_err-stops.ensures.round)

pub returns-in_err-plan-clause-refused : goal.returns-in_err-plan-clause-refused
returns-in_err-plan-clause-refused g c =
    let provided : IsProvided c.args.scripts.now =
    record { single = c.in_ok-table.ensures.single; whole = c.in_ok-check_missing.ensures.whole } in
    let f = c.in_err-plan.field-0.0 in
    err_and c.from_residual-in_err-plan.result f _ c.from_residual-in_err-plan.ensures.1
    (refused-deep c.args.scripts.now c.in_ok-starts.starts.items c.in_ok-stops.stops.items f provided
    c.in_ok-starts.ensures.least c.in_ok-stops.ensures.least
    (rw (c.as_slice.ensures.value, c.as_slice-2.ensures.value) at c.in_err-plan.ensures.deep))

pub returns-clause-planned : goal.returns-clause-planned
returns-clause-planned g c =
    let provided : IsProvided c.args.scripts.now =
    record { single = c.in_ok-table.ensures.single; whole = c.in_ok-check_missing.ensures.whole } in
    let is = rw (c.as_slice.ensures.value, c.as_slice-2.ensures.value) at c.in_ok-plan.ensures.planned in
    plan_made c.args.scripts.now c.in_ok-starts.starts.items c.in_ok-stops.stops.items c.in_ok-plan.plan.items provided
    c.in_ok-starts.ensures.least c.in_ok-stops.ensures.least is c.in_ok-plan.ensures.short
