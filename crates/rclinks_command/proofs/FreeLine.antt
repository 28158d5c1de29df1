-- The command line uses only the features of clap that are specified.
use Rattle.rclinks_command.proofs.Words.{◌≡◌, refl, true, is_simple_and_free, command_line}
use Rattle.clap.proofs.OnLiterals.{clap_on_literals}
use Rattle.command_words.specs.Arguments.{described}
use Rattle.command_words.specs.CommandLines.{bare_line}

pub is_free_line : is_simple_and_free command_line ≡ true
unfolding bare_line described clap_on_literals
is_free_line = refl
