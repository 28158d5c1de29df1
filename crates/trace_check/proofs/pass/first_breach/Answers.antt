use Rattle.std.proofs.Common.{◌≡◌, ap, sym, ◌∙◌, subst, reverse, take, Some, None, option_map}
use Rattle.trace_events.specs.Lawful.{broken}
use Rattle.trace_check.specs.Judging.{Judged, JudgeAfterHappening}
use Rattle.trace_check.specs.Laws.{law_number}
use Rattle.trace_check.proofs.Passing.{one_more, breach_found, passed_all}
use Rattle.trace_check.proofs.pass.first_breach.Goals as goal

pub returns-in-Some : goal.returns-in-Some
returns-in-Some g c =
    let broke : Some (law_number c.in-Some.law)
    ≡ broken c.index-trace-position.result (reverse (take c.loop-position.position c.args.trace.now)) =
    ap (option_map law_number) (sym c.in-Some.is) ∙ c.in_ok-law.ensures.law _ c.loop-position.invariant in
    breach_found c.args.trace.now c.loop-position.position (law_number c.in-Some.law) c.index-trace-position.result
    c.loop-position.invariant.lawful c.loop-position-test.true c.index-trace-position.is broke

pub loop-position-preserved : goal.loop-position-preserved
loop-position-preserved g c =
    let next : JudgeAfterHappening None c.loop-position.judge c.take.new.self c.index-trace-position.result =
    subst
    (λ law. JudgeAfterHappening law c.loop-position.judge c.take.new.self c.index-trace-position.result) c.in_default.is
    c.in_ok-law.ensures.next in
    subst (λ past. Judged c.take.new.self past) (sym (one_more c.args.trace.now c.loop-position.position
    c.index-trace-position.result c.loop-position-test.true c.index-trace-position.is))
    (next _ c.loop-position.invariant)

pub returns : goal.returns
returns g c =
    passed_all c.args.trace.now c.loop-position.position c.loop-position.invariant.lawful c.loop-position-test.false
