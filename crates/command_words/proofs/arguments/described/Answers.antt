use Rattle.std.proofs.Common.{◌∙◌, ap, map}
use Rattle.std.proofs.lemmas.Result.{IfOk-weaker}
use Rattle.clap.specs.Words.{App}
use Rattle.command_words.specs.Arguments.{argument_rule, arguments_of, described}
use Rattle.command_words.specs.CommandLines.{with_rules}
use Rattle.command_words.proofs.arguments.described.Goals as goal

pub returns : goal.returns
unfolding described
returns c = IfOk-weaker c.with_arguments.result _ _
    (λ made adds. (
      adds.whole
          ∙ ap (λ (app : App). with_rules app (map argument_rule (arguments_of c.args.table.now)))
          c.without_arguments.ensures.0,
      adds.local ∙ c.without_arguments.ensures.1,
    ))
    c.with_arguments.ensures
