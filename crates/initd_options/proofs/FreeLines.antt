-- The command lines use only the part of clap whose behaviour is specified.
use Rattle.std.proofs.Common.{◌≡◌, refl, true}
use Rattle.clap.specs.Words.{is_simple_and_free}
use Rattle.clap.proofs.OnLiterals.{clap_on_literals}
use Rattle.command_words.specs.CommandLines.{bare_line, line_of}
use Rattle.initd_options.specs.CommandLine.{check_line, run_line, simulate_line}

pub is_free_simulate : is_simple_and_free simulate_line ≡ true
unfolding bare_line line_of clap_on_literals
is_free_simulate = refl

pub is_free_check : is_simple_and_free check_line ≡ true
unfolding bare_line line_of clap_on_literals
is_free_check = refl

pub is_free_run : is_simple_and_free run_line ≡ true
unfolding bare_line line_of clap_on_literals
is_free_run = refl
