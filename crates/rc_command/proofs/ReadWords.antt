-- The command line for arguments in which clap finds no fault.
use Rattle.rc_command.proofs.CommonWords.{◌≡◌, ◌∙◌, ap, refl, sym, true, ℕ, List, Bool, codes, Option, Some}
use Rattle.rc_command.proofs.CommonWords.{option_and_then, Row, is_simple_and_free, command_line, options_with}
use Rattle.rc_command.proofs.CommonWords.{arguments_in, rc_arguments, seconds_option, RunOptions}
use Rattle.clap.proofs.OnLiterals.{clap_on_literals}
use Rattle.command_words.specs.Arguments.{described}
use Rattle.command_words.specs.CommandLines.{bare_line, is_set}

-- the command line uses only the features of clap that are specified
pub is_free_line : is_simple_and_free command_line ≡ true
unfolding bare_line described clap_on_literals
is_free_line = refl

-- the command line with this time limit
pub rows_are : (rows : List Row) (sysv : Bool) (options : RunOptions) (seconds : Option ℕ)
    → seconds_option rows ≡ Some seconds
    → sysv ≡ is_set (codes "--as-sysv") rows → options ≡ options_with seconds rows
    → arguments_in rows ≡ rc_arguments rows sysv options
rows_are rows sysv options seconds some set same =
    ap
    (option_and_then (λ seconds. rc_arguments rows (is_set (codes "--as-sysv") rows) (options_with seconds rows))) some
    ∙ (ap (λ s. rc_arguments rows s (options_with seconds rows)) (sym set) ∙ ap (rc_arguments rows sysv) (sym same))
