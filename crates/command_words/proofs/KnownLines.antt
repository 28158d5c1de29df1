-- What clap returns when its command line is known to be the one of a table.
use Rattle.std.proofs.Common.{arith, ◌≡◌, ◌∙◌, ap, true, List, Result, subst, IfOk}
use Rattle.std.proofs.lemmas.Result.{IfOk-weaker}
use Rattle.clap.specs.declared.error.Error.{Error}
use Rattle.clap.specs.declared.parser.matches.ArgMatches.{ArgMatches}
use Rattle.clap.specs.Words.{App, FailsBy, HasMatchesOf, Text, fault_of, found_of, is_simple, is_simple_and_free}
use Rattle.clap.specs.Words.{matches_of, rows_of}

simple : (line : App) → is_simple_and_free line ≡ true → is_simple line ≡ true
simple line free = grind (arith)

module _ (app line : App) (is : app ≡ line) (free : is_simple_and_free line ≡ true) (words : List Text)
    (result : Result ArgMatches Error) where
  pub known_rows : IfOk result (HasMatchesOf app words)
      → IfOk result (λ found. rows_of (found_of found) ≡ matches_of line words)
  known_rows = IfOk-weaker result _ _
      (λ found has. (has (ap is_simple is ∙ simple line free)).0 ∙ ap (λ (a : App). matches_of a words) is)

  pub known_faults : (is_simple_and_free app ≡ true → FailsBy (fault_of app words) result)
      → FailsBy (fault_of line words) result
  known_faults kinds =
      subst (λ (a : App). FailsBy (fault_of a words) result) is (kinds (ap is_simple_and_free is ∙ free))
