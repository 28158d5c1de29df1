-- The command line uses only the features of clap that are specified.
use Rattle.std.proofs.Common.{◌≡◌, refl, true}
use Rattle.clap.specs.Words.{is_simple_and_free}
use Rattle.clap.proofs.OnLiterals.{clap_on_literals}
use Rattle.command_words.specs.Arguments.{described}
use Rattle.command_words.specs.CommandLines.{bare_line}
use Rattle.telinit_command.specs.CommandLine.{command_line}

pub is_free_line : is_simple_and_free command_line ≡ true
unfolding bare_line described clap_on_literals
is_free_line = refl
