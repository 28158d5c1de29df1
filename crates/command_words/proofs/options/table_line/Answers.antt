use Rattle.std.proofs.Common.{◌∙◌, ap, map}
use Rattle.std.proofs.lemmas.Result.{IfOk-weaker}
use Rattle.clap.specs.Words.{App}
use Rattle.command_words.specs.CommandLines.{line_of, row_rule, texts_of, with_rules}
use Rattle.command_words.proofs.options.table_line.Goals as goal

pub returns : goal.returns
unfolding line_of
returns c = IfOk-weaker c.with_rows.result _ _
    (λ made adds. (
      adds.whole ∙ ap (λ (app : App). with_rules app (map row_rule (texts_of c.args.table.now))) c.bare_line.ensures.0,
      adds.local ∙ c.bare_line.ensures.1,
    ))
    c.with_rows.ensures
