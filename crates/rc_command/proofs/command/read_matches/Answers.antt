use Rattle.rc_command.proofs.CommonWords.{◌∙◌, IfErr-weaker, IfOk-weaker, found_of, rows_of}
use Rattle.rc_command.proofs.ReadWords.{rows_are}
use Rattle.rc_command.proofs.command.read_matches.Goals as goal

pub returns-clause-ok : goal.returns-clause-ok
returns-clause-ok c =
    IfOk-weaker c.words_of.result _ _ (λ arguments is. rows_are (rows_of (found_of c.args.matches.now)) c.is_set.result
    c.read_options.result c.in_ok-seconds.seconds c.in_ok-seconds.ensures.ok c.is_set.ensures c.read_options.ensures
    ∙ is) c.words_of.ensures.ok

pub returns-clause-usage : goal.returns-clause-usage
returns-clause-usage c =
    IfErr-weaker c.words_of.result _ _ (λ fault none some. rows_are
    (rows_of (found_of c.args.matches.now)) c.is_set.result c.read_options.result c.in_ok-seconds.seconds
    c.in_ok-seconds.ensures.ok c.is_set.ensures c.read_options.ensures ∙ none some) c.words_of.ensures.usage
