use Rattle.initview_command.proofs.Words.{◌∙◌, ap, SeenMarks}
use Rattle.initview_command.proofs.planning.TimingQuery.answer.Goals as goal

pub returns : goal.returns
returns c = λ past seen has. (
  c.in_ok-lines.ensures past (c.as_slice.ensures ∙ ap (λ (m : SeenMarks). m.marks) (c.seen.ensures ∙ has)),
  c.stop_status.ensures,
)
