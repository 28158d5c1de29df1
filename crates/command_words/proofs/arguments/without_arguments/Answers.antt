use Rattle.std.proofs.Common.{rules}
use Rattle.command_words.specs.CommandLines.{bare_line}
use Rattle.command_words.proofs.arguments.without_arguments.Goals as goal

pub returns : goal.returns
unfolding bare_line
returns c = search rules
