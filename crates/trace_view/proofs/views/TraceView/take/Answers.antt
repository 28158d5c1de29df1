use Rattle.trace_view.proofs.Words.{◌∙◌, ◌∷◌, sym, ap, subst, None, JudgeAfterHappening, law_number, Viewed}
use Rattle.std.proofs.Common.{option_map}
use Rattle.trace_view.proofs.views.TraceView.take.Goals as goal

pub returns-in-Some-clause-law : goal.returns-in-Some-clause-law
returns-in-Some-clause-law g c = λ past seen.
    ap (option_map law_number) (sym c.in-Some.is)
    ∙ c.in_ok-law.ensures.law past (subst (λ v. Viewed v past) (sym c.self.view_is) seen).judged

pub returns-clause-law : goal.returns-clause-law
returns-clause-law g c = λ past seen.
    ap (option_map law_number) (sym c.in_default.is)
    ∙ c.in_ok-law.ensures.law past (subst (λ v. Viewed v past) (sym c.self.view_is) seen).judged

pub returns-clause-next : goal.returns-clause-next
returns-clause-next g c = λ past seen.
    let was = subst (λ v. Viewed v past) (sym c.self.view_is) seen in
    let next : JudgeAfterHappening None c.self.inside.judge c.take.new.self c.args.happening.now =
    subst (λ law. JudgeAfterHappening law c.self.inside.judge c.take.new.self c.args.happening.now) c.in_default.is
    c.in_ok-law.ensures.next in
    let judged = next past was.judged in
    let in_force = c.table-table.ensures.value (c.args.happening.now ∷ past) judged in
    let at_time = c.time-time.ensures (c.args.happening.now ∷ past) judged in
    record {
      judged = judged;
      unreaped = c.in_ok-take_unreaped.ensures past was.judged.lawful in_force was.unreaped;
      kept = c.in_ok-take_kept.ensures past was.judged.lawful in_force was.unreaped was.kept;
      wishes = c.take-2.ensures past (c.stage-stage.ensures (c.args.happening.now ∷ past) judged) was.wishes;
      calls = c.take_call.ensures past was.calls;
      births = c.in_ok-take_birth.ensures past at_time was.births;
      early = c.in_ok-take_early.ensures past in_force was.early;
      ends = c.in_ok-take_end.ensures past at_time was.ends;
    }
