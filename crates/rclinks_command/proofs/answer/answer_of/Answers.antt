use Rattle.rclinks_command.proofs.Words.{inl, inr, map, subst, ReportsRefused}
use Rattle.std.proofs.lemmas.Result.{IfErr-weaker}
use Rattle.rclinks_command.proofs.AnswerLemmas.{scripts_of}
use Rattle.rclinks_command.proofs.answer.answer_of.Goals.{in-Ok, in-Err}
use Rattle.rclinks_command.proofs.answer.answer_of.Goals as goal

pub returns-clause-refused : goal.returns-clause-refused
returns-clause-refused g c = elim c.match-plan_of.branch [
  | in-Ok w ↦ rw w.work-is (IfErr-weaker w.work_of-work.result _ _ (λ refusal taken status. inr (scripts_of _ _ _ _ _ _
      (λ scripts is. (w.in-Ok.plan, is, taken status)) w.in-Ok.ensures.planned)) w.work_of-work.ensures.taken)
  | in-Err w ↦ rw w.work-is (λ status. inl (w.in-Err.ensures.refused status))
]

pub returns-clause-told : goal.returns-clause-told
returns-clause-told g c = λ plain. elim c.match-plan_of.branch [
  | in-Ok w ↦ rw w.work-is (IfErr-weaker w.work_of-work.result _ _ (λ refusal taken status. inr (scripts_of _ _ _ _ _ _
      (λ scripts is. (w.in-Ok.plan, is, taken status)) w.in-Ok.ensures.planned)) w.work_of-work.ensures.taken)
  | in-Err w ↦ rw (w.work-is, w.reading-is)
      (λ status. inl (subst (λ old. ReportsRefused (g.T.Texts.text_at c.args.texts.now) c.args.line.now.last
      (map (λ file. file.now) c.args.line.now.files.now) old c.plan_of.new.reading.report.items)
      c.new-4.ensures.items (w.in-Err.ensures.told plain status)))
]
