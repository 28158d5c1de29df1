-- Another happening that breaks no law increases the number of happenings judged by one.
use Rattle.trace_log_wrappers.proofs.Words.{◌∷◌, ap, subst, sym, suc, None}
use native.Mathlib.Numerals.{unary_clauses}
use Rattle.trace_check.specs.Judging.{JudgeAfterHappening}
use Rattle.trace_log_wrappers.specs.Judgements.{JudgedSoFar}
use Rattle.trace_log_wrappers.proofs.judgements.Judgement.with_next.Goals as goal

pub returns-in-Ok-None : goal.returns-in-Ok-None
returns-in-Ok-None g c = λ past finds.
    let happening = c.args.happening.now in
    let found = subst (λ j. JudgedSoFar c.args.judge.now j past) c.in-Lawful.is finds in
    let next : JudgeAfterHappening None c.args.judge.now c.take.new.self happening =
    subst (λ law. JudgeAfterHappening law c.args.judge.now c.take.new.self happening) c.in-Ok-None.field-0-is
    c.in-Ok-None.ensures.next in
    c.lawful.ensures c.take.new.self (happening ∷ past) (next past found.0) (simp unary_clauses (ap suc (sym found.1)))
