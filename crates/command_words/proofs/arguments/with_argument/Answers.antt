use Rattle.std.proofs.Common.{◌≡◌, ◌∙◌, ap, refl, ◌||◌, Bool, true, false}
use Rattle.std.proofs.lemmas.Result.{IfOk-weaker}
use Rattle.clap.specs.declared.builder.command.Command.{out-Command}
use Rattle.clap.specs.Words.{app_of, with_rule}
use Rattle.command_words.proofs.arguments.with_argument.Goals as goal

or_false : (b : Bool) → (b || false) ≡ b
or_false true = refl
or_false false = refl

pub returns : goal.returns
returns c = IfOk-weaker c.arg.result _ _ (λ made adds. record {
  whole = adds.shape c.argument.ensures.local ∙ ap (with_rule (app_of c.args.line)) c.argument.ensures.rule;
  local =
      adds.globals ∙ ap (λ global. (out-Command c.args.line).has_globals || global) c.argument.ensures.local
      ∙ or_false _;
}) c.arg.ensures
