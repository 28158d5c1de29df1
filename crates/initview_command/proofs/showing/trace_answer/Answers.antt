use Rattle.initview_command.proofs.Words.{◌≡◌, ◌∙◌, ap, inr, rules, sym, Err, answer_value}
use Rattle.initview_command.proofs.Shown.{answered, gives_as, refused, shows}
use Rattle.initview_command.specs.declared.telling.Refusal.TheVariants as why
use Rattle.initview_command.proofs.showing.trace_answer.Goals as goal

pub returns-in_err-file : goal.returns-in_err-file
returns-in_err-file g c =
    let is : c.from_residual.result ≡ Err c.in_err-file.field-0.0 = search (rules, c.from_residual.ensures) in
    inr (ap answer_value is ∙ ap Err c.in_err-file.ensures.refused)

pub returns-then-is_within : goal.returns-then-is_within
returns-then-is_within g c =
    let (text, small, at, taken) = c.in_ok-file.ensures.text in
    let file = c.in_ok-file.file.value in
    shows g.Q.Seen.TraceObserver.has_seen (g.T.Texts.text_at c.args.texts.now)
    (g.G.LiveTraces.writer_at c.args.growing.now) c.args.path.now text (g.Q.Query.gives c.args.query c.args.path.now)
    file.text.viewing.viewing file.text.seen c.writer-writer.result c.end-stop.result.0 c.end-stop.result.1 _ at
    c.writer-writer.ensures ((rw c.deref.ensures at c.end-stop.ensures) text small taken) (λ past seen has.
    refused _ _ (sym c.is_within.ensures ∙ c.if-is_within.true))

pub returns-in_err-answer : goal.returns-in_err-answer
returns-in_err-answer g c =
    let is : c.from_residual-in_err-answer.result ≡ Err why.Memory =
    search (rules, c.from_residual-in_err-answer.ensures) in
    inr (ap answer_value is)

pub returns : goal.returns
returns g c =
    let (text, small, at, taken) = c.in_ok-file.ensures.text in
    let file = c.in_ok-file.file.value in
    let given = rw c.deref_mut.ensures.value at c.in_ok-answer.ensures in
    shows g.Q.Seen.TraceObserver.has_seen (g.T.Texts.text_at c.args.texts.now)
    (g.G.LiveTraces.writer_at c.args.growing.now) c.args.path.now text (g.Q.Query.gives c.args.query c.args.path.now)
    file.text.viewing.viewing file.text.seen c.writer-writer.result c.end-stop.result.0 c.end-stop.result.1 _ at
    c.writer-writer.ensures ((rw c.deref.ensures at c.end-stop.ensures) text small taken) (λ past seen has.
    answered _ _ _ (sym c.is_within.ensures ∙ c.if-is_within.false)
    (gives_as _ _ (g.Q.Query.gives c.args.query c.args.path.now c.writer-writer.result c.end-stop.result.0 past)
    (given past seen has).0 (given past seen has).1))
