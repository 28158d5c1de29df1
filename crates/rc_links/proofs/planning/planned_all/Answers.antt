use Rattle.rc_links.proofs.Words.{◌+◌, subst, get_or, drop, drop_more, arith, PlannedText, IsShort}
use Rattle.rc_links.proofs.NameLemmas.{cut_at, err_and}
use Rattle.rc_links.proofs.PlanLemmas.{FaultSatisfies-weaker, any_deep, planned-step, short-push}
use Rattle.rc_links.proofs.planning.planned_all.Goals as goal

pub returns-in_err-script-clause-deep : goal.returns-in_err-script-clause-deep
returns-in_err-script-clause-deep g c =
    err_and c.from_residual.result c.in_err-script.field-0.0 _ c.from_residual.ensures.1
    (FaultSatisfies-weaker c.in_err-script.field-0.0
    (any_deep c.args.starts.now c.args.stops.now c.loop-position.position) c.in_err-script.ensures.deep)

pub loop-position-preserved : goal.loop-position-preserved
loop-position-preserved g c =
    let scripts = c.args.scripts.now in
    let starts = c.args.starts.now in
    let stops = c.args.stops.now in
    let n = c.loop-position.position in
    let s = c.index-scripts-position.result in
    let cut = cut_at scripts n s c.loop-position-test.true c.index-scripts-position.is in
    let first = drop_more starts n 0 (omega (arith, c.loop-position-test.true, c.requires.starts)) in
    let second = drop_more stops n 0 (omega (arith, c.loop-position-test.true, c.requires.stops)) in
    let kept = rw (cut.0, first, second) at c.loop-position.invariant.planned in
    rw (c.in_ok-push.ensures.items, c.in_ok-script.ensures.planned) (record {
      planned = planned-step c.loop-position.plan.items _ s (drop (n + 1) scripts) (get_or starts n 0)
          (get_or stops n 0) (drop (n + 1) starts) (drop (n + 1) stops) kept;
      short = short-push c.loop-position.plan.items _ c.loop-position.invariant.short
          (subst (λ (t : PlannedText). IsShort t) c.in_ok-script.ensures.planned c.in_ok-script.ensures.short);
    })
