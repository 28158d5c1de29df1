use Rattle.rc_command.proofs.CommonWords.{◌∙◌, ap, option_and_then, IfErr-weaker, IfOk-weaker, arguments_in}
use Rattle.rc_command.proofs.ReadWords.{is_free_line}
use Rattle.rc_command.proofs.command.read_words.Goals as goal

pub returns-in-Ok-clause-ok : goal.returns-in-Ok-clause-ok
returns-in-Ok-clause-ok c =
    IfOk-weaker c.read_matches.result _ _
    (λ arguments is. ap (option_and_then arguments_in) (c.in-Ok.ensures.ok is_free_line) ∙ is) c.read_matches.ensures.ok

pub returns-in-Ok-clause-usage : goal.returns-in-Ok-clause-usage
returns-in-Ok-clause-usage c =
    IfErr-weaker c.read_matches.result _ _ (λ fault none some. ap (option_and_then arguments_in)
    (c.in-Ok.ensures.ok is_free_line) ∙ none some) c.read_matches.ensures.usage

pub returns-in-Err-clause-usage : goal.returns-in-Err-clause-usage
returns-in-Err-clause-usage c = λ some. ap (option_and_then arguments_in) (c.in-Err.ensures.usage is_free_line some)
