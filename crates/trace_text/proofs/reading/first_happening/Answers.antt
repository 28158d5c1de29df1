use Rattle.std.proofs.lemmas.Result.{IfOk-weaker}
use Rattle.trace_text.proofs.ReadTexts.{found_begins, only_begins, none_begins}
use Rattle.trace_text.proofs.reading.first_happening.Goals as goal

pub returns-clause-found : goal.returns-clause-found
returns-clause-found g c =
    IfOk-weaker c.first_by_words.result _ _ (found_begins (λ rest. rest.now) c.args.text.now) c.first_by_words.ensures

pub returns-clause-only : goal.returns-clause-only
returns-clause-only g c =
    IfOk-weaker c.first_by_words.result _ _ (only_begins (λ rest. rest.now) c.args.text.now) c.first_by_words.ensures

pub returns-clause-none : goal.returns-clause-none
returns-clause-none g c =
    IfOk-weaker c.first_by_words.result _ _ (none_begins (λ rest. rest.now) c.args.text.now) c.first_by_words.ensures
