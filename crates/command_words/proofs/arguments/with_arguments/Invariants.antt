use Rattle.std.proofs.Common.{◌≡◌, drop, map}
use Rattle.clap.specs.declared.builder.command.Command.{out-Command}
use Rattle.clap.specs.Words.{app_of}
use Rattle.command_words.specs.Arguments.{argument_rule, arguments_of}
use Rattle.command_words.specs.CommandLines.{with_rules}
use Rattle.command_words.proofs.arguments.with_arguments.Given as goal

-- adding the remaining rows to the command built so far gives the command with all rows
abbrev pub invariant-loop-row : goal.invariant-loop-row
invariant-loop-row l = record {
  whole : with_rules (app_of l.line) (map argument_rule (arguments_of (drop l.row-index l.table)))
      ≡ with_rules (app_of l.fn.line) (map argument_rule (arguments_of l.table));
  local : (out-Command l.line).has_globals ≡ (out-Command l.fn.line).has_globals;
}
