use Rattle.trace_check.proofs.Words.{sym, ◌∙◌, subst, flaw_in, Judging, Judged}
use Rattle.trace_check.proofs.Calm.{calm_next}
use Rattle.trace_check.proofs.Unowed.{unowed_next}
use Rattle.trace_check.proofs.Passing.{flaw_is, judged_more}
use Rattle.trace_check.proofs.trace_judges.TraceJudge.take.Goals as goal

pub returns-in-Some-clause-law : goal.returns-in-Some-clause-law
returns-in-Some-clause-law g c = λ past judged.
    let old : Judging = record { table = c.self.inside.table; state = c.self.inside.judge } in
    ◌∙◌ {b = flaw_in old.table old.state c.args.happening.now} c.in-Some.ensures (flaw_is c.args.happening.now past old
    c.len-len.ensures.distinct (subst (λ j. Judged j past) (sym c.self.view_is) judged))

pub returns-clause-law : goal.returns-clause-law
returns-clause-law g c = λ past judged.
    let old : Judging = record { table = c.self.inside.table; state = c.self.inside.judge } in
    ◌∙◌ {b = flaw_in old.table old.state c.args.happening.now} c.in_default.ensures (flaw_is c.args.happening.now past
    old c.len-len.ensures.distinct (subst (λ j. Judged j past) (sym c.self.view_is) judged))

pub returns-clause-next : goal.returns-clause-next
returns-clause-next g c = λ past judged.
    let old : Judging = record { table = c.self.inside.table; state = c.self.inside.judge } in
    let new : Judging = record { table = c.adopt_happening_table.new.table; state = c.take.new.self } in
    judged_more c.args.happening.now old new c.len-len.ensures.distinct
    (sym c.in_default.ensures) c.in_ok-take.ensures.ok
    (c.adopt_happening_table.ensures ∙ c.in_ok-brought.ensures old.table) past
    (subst (λ j. Judged j past) (sym c.self.view_is) judged)

pub invariant_of-self-2 : goal.invariant_of-self-2
invariant_of-self-2 g c = (
  rw c.calm_after-self-inside.ensures (calm_next c.args.happening.now c.self.inside.judge c.take.new.self
      c.self.inside.table c.adopt_happening_table.new.table c.self.inside.calm (sym c.in_default.ensures)
      c.in_ok-take.ensures.ok
      (c.adopt_happening_table.ensures ∙ c.in_ok-brought.ensures c.self.inside.table) c.self.invariant.0),
  rw c.unowed_count_after-unowed.ensures (unowed_next c.args.happening.now c.self.inside.judge c.take.new.self
      c.self.inside.table c.adopt_happening_table.new.table c.unowed_before-known.result c.len-len.ensures.distinct
      c.in_ok-take.ensures.ok (c.adopt_happening_table.ensures ∙ c.in_ok-brought.ensures c.self.inside.table)
      c.unowed_before-known.ensures),
)
