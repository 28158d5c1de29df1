use Rattle.initview_command.proofs.Words.{◌≡◌, ◌∙◌, ap, inl, inr, rules, Err, path_texts, answer_value}
use Rattle.initview_command.proofs.Shown.{answers, gives_as, no_answer}
use Rattle.initview_command.specs.declared.telling.Refusal.TheVariants as why
use Rattle.initview_command.proofs.tables.tables_answer.Goals as goal

pub returns-in_err-parts : goal.returns-in_err-parts
returns-in_err-parts g c =
    let is : c.from_residual.result ≡ Err c.in_err-parts.field-0.0 = search (rules, c.from_residual.ensures) in
    inr (ap answer_value is ∙ ap Err c.in_err-parts.ensures.refused)

pub returns-in_err-answer : goal.returns-in_err-answer
returns-in_err-answer g c =
    let fault = c.in_err-answer.field-0.0 in
    let is : c.from_residual-in_err-answer.result ≡ Err (why.Table fault) =
    search (rules, c.from_residual-in_err-answer.ensures) in
    no_answer (g.T.Texts.text_at c.args.texts.now) (path_texts c.args.paths.now) c.args.question
    _ c.in_ok-parts.parts.items _ c.in_ok-parts.ensures.files c.deref_mut.ensures.value fault (ap answer_value is)
    c.in_err-answer.ensures.fault

pub returns : goal.returns
returns g c =
    let told = c.in_ok-answer.ensures.told in
    answers (g.T.Texts.text_at c.args.texts.now) (path_texts c.args.paths.now) c.args.question _
    c.in_ok-parts.parts.items _ c.in_ok-parts.ensures.files c.deref_mut.ensures.value
    (inl (told.0, told.1, gives_as _ _ _ told.2 told.3))
