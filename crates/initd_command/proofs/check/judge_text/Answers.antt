use Rattle.initd_command.proofs.Words.{refl, ◌∙◌, ap, inl, inr, subst, Keeps-refl, IsTextAt, CheckArguments, check_of}
use Rattle.initd_command.proofs.Words.{refused, cut_at, within_of}
use Rattle.initd_command.specs.Verdicts.{EndsTold}
use Rattle.initd_command.specs.declared.run.Obstacle.TheVariants.{Unread}
use Rattle.initd_command.proofs.check.judge_text.Goals as goal

pub returns-in-Ok : goal.returns-in-Ok
returns-in-Ok g c =
    let text_at = g.T.Texts.text_at c.args.texts.now in
    let options : CheckArguments = check_of c.args.options.now in
    let old = g.W.Write.contents c.args.out.now in
    let new = g.W.Write.contents c.tell_text.new.out in
    let (text, short, is, taken) = c.in-Ok.ensures.text in
    let judge = taken c.requires in
    let open_line = c.answer-open_line.result.1 in
    let count = c.answer-open_line.result.2 in
    let finding = c.answer-open_line.result.0.now in
    let (ending, status, told, reported) = c.tell_text.ensures in
    let within = c.within_of-within.ensures ∙ ap (λ path. within_of path c.read_pieces.new.taker.first count)
    c.as_str-path.ensures.value ∙ ap (λ first. within_of options.trace first count) judge.1 in
    let ends = subst (λ path. EndsTold (cut_at options.growing open_line) finding
    (record { within = path; open_line = open_line; count = count }) ending old new) within told in
    let here = subst (λ path. IsTextAt text_at path text) c.as_str-path.ensures.value is in (
      ending,
      status,
      inr (text, here, (finding, open_line, count, c.answer-open_line.ensures text short judge.0, ends)),
      reported,
    )

pub returns-in-Err : goal.returns-in-Err
returns-in-Err g c = (
  refused (Unread c.args.options.now.trace c.in-Err.error),
  c.report_cannot.ensures.status,
  inl (refl, Keeps-refl (g.W.Write.contents c.args.out.now)),
  rw c.as_str-path.ensures.value at c.report_cannot.ensures.reported,
)
