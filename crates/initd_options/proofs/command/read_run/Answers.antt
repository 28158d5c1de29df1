use Rattle.std.proofs.Common.{◌≡◌, ◌∙◌, ap, subst, sym, Result, Ok, Err, IfErr}
use Rattle.std.specs.Prelude.{option_and_then}
use Rattle.std.specs.Result.{IsErrAnd}
use Rattle.std.proofs.lemmas.Result.{IfOk-weaker}
use Rattle.initd_options.specs.Options.{run_arguments}
use Rattle.initd_options.proofs.FreeLines.{is_free_run}
use Rattle.initd_options.proofs.command.read_run.Goals as goal

handed_on : {T E : Type 0} (r : Result T E) (given : E) (So : E → Type 0) → IsErrAnd r (λ fault. fault ≡ given)
    → So given → IfErr r So
handed_on (Ok value) given So is so = tt
handed_on (Err error) given So is so = subst So (sym is) so

weaker : {T E : Type 0} (r : Result T E) (P Q : E → Type 0) → ((e : E) → P e → Q e) → IfErr r P → IfErr r Q
weaker (Ok value) P Q so is = tt
weaker (Err error) P Q so is = so error is

pub returns-in_err-matches-clause-usage : goal.returns-in_err-matches-clause-usage
returns-in_err-matches-clause-usage c =
    handed_on c.from_residual.result c.in_err-matches.field-0.0 _ c.from_residual.ensures.1
    (λ some. ap (option_and_then run_arguments) (c.in_err-matches.ensures.usage is_free_run some))

pub returns-clause-ok : goal.returns-clause-ok
returns-clause-ok c =
    IfOk-weaker c.read_matches.result _ _
    (λ arguments is. ap (option_and_then run_arguments) (c.in_ok-matches.ensures.ok is_free_run) ∙ is)
    c.read_matches.ensures.ok

pub returns-clause-usage : goal.returns-clause-usage
returns-clause-usage c =
    weaker c.read_matches.result _ _ (λ fault none some. ap (option_and_then run_arguments)
    (c.in_ok-matches.ensures.ok is_free_run) ∙ none some) c.read_matches.ensures.usage
