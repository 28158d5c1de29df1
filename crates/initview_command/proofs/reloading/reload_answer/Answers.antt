use Rattle.initview_command.proofs.Words.{◌≡◌, ◌∙◌, ap, inr, rules, Err, path_texts, answer_value}
use Rattle.initview_command.proofs.Shown.{no_table, shown_with}
use Rattle.initview_command.specs.Reloading.{reload_answer, reload_with}
use Rattle.initview_command.specs.Tables.{NoneOf, old_of, table_in}
use Rattle.initview_command.specs.declared.growing.Writer.{Writer}
use Rattle.initview_command.specs.declared.telling.Refusal.TheVariants as why
use Rattle.initview_command.proofs.reloading.reload_answer.Goals as goal

pub returns-in_err-files : goal.returns-in_err-files
returns-in_err-files g c =
    let is : c.from_residual.result ≡ Err c.in_err-files.field-0.0 = search (rules, c.from_residual.ensures) in
    inr (ap answer_value is ∙ ap Err c.in_err-files.ensures.refused)

pub returns-in_err-old : goal.returns-in_err-old
returns-in_err-old g c =
    let fault = c.in_err-old.field-0.0 in
    let is : c.from_residual-in_err-old.result ≡ Err (why.Table fault) =
    search (rules, c.from_residual-in_err-old.ensures) in
    no_table (g.T.Texts.text_at c.args.texts.now) (g.G.LiveTraces.writer_at c.args.growing.now)
    (path_texts c.args.paths.now) (λ fs (writer : Writer). reload_with c.args.level fs) NoneOf _
    c.in_ok-files.files.items _ c.in_ok-files.ensures.files c.deref_mut.ensures.value fault (ap answer_value is)
    c.in_err-old.ensures.fault

pub returns : goal.returns
returns g c =
    shown_with (g.T.Texts.text_at c.args.texts.now) (g.G.LiveTraces.writer_at c.args.growing.now)
    (path_texts c.args.paths.now) (λ fs (writer : Writer). reload_with c.args.level fs) NoneOf
    (answer_value c.trace_answer.result) c.in_ok-files.files.items _ c.in_ok-files.ensures.files
    c.deref_mut.ensures.value _
    (ap (λ old (writer : Writer). reload_answer old c.in_ok-old.new c.args.level) c.in_ok-old.ensures.tables.0
    ∙ ap (λ new (writer : Writer). reload_answer (table_in (old_of c.deref_mut.result.now)) new c.args.level)
    c.in_ok-old.ensures.tables.1) c.trace_answer.ensures
