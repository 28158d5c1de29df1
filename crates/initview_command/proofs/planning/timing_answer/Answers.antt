use Rattle.initview_command.proofs.Words.{◌≡◌, ◌∙◌, ap, inr, rules, Err, path_texts, answer_value}
use Rattle.initview_command.proofs.Shown.{no_table, shown_with}
use Rattle.initview_command.specs.Planning.{timing_answer, timing_with}
use Rattle.initview_command.specs.Tables.{AreNone}
use Rattle.initview_command.specs.declared.growing.Writer.{Writer}
use Rattle.initview_command.specs.declared.telling.Refusal.TheVariants as why
use Rattle.initview_command.proofs.planning.timing_answer.Goals as goal

pub returns-in_err-files : goal.returns-in_err-files
returns-in_err-files g c =
    let is : c.from_residual.result ≡ Err c.in_err-files.field-0.0 = search (rules, c.from_residual.ensures) in
    inr (ap answer_value is ∙ ap Err c.in_err-files.ensures.refused)

pub returns-in_err-table : goal.returns-in_err-table
returns-in_err-table g c =
    let fault = c.in_err-table.field-0.0 in
    let is : c.from_residual-in_err-table.result ≡ Err (why.Table fault) =
    search (rules, c.from_residual-in_err-table.ensures) in
    no_table (g.T.Texts.text_at c.args.texts.now) (g.G.LiveTraces.writer_at c.args.growing.now)
    (path_texts c.args.paths.now) (λ fs (writer : Writer). timing_with c.args.level fs) AreNone _
    c.in_ok-files.files.items _ c.in_ok-files.ensures.files c.deref.ensures.value fault (ap answer_value is)
    c.in_err-table.ensures.fault

pub returns : goal.returns
returns g c =
    shown_with (g.T.Texts.text_at c.args.texts.now) (g.G.LiveTraces.writer_at c.args.growing.now)
    (path_texts c.args.paths.now) (λ fs (writer : Writer). timing_with c.args.level fs) AreNone
    (answer_value c.trace_answer.result) c.in_ok-files.files.items _ c.in_ok-files.ensures.files
    c.deref.ensures.value _
    (ap (λ t (writer : Writer). timing_answer c.args.level t) c.in_ok-table.ensures.table) c.trace_answer.ensures
