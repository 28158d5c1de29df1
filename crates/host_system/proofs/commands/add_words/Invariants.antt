use Rattle.std.proofs.Common.{◌≡◌, ◌++◌, length}
use Rattle.std.specs.Str.{IsUtf8}
use Rattle.text_lines.specs.Lines.{words_of}
use Rattle.host_system.specs.Commands.{words_in}
use Rattle.host_system.proofs.commands.add_words.Given as goal

abbrev pub invariant-loop-word : goal.invariant-loop-word
invariant-loop-word g l = record {
  added : words_in l.command ++ words_of l.rest ≡ words_in l.fn.command ++ words_of l.text;
  utf8 : IsUtf8 l.rest;
}

abbrev pub decreases-loop-word : goal.decreases-loop-word
decreases-loop-word g l = length l.rest
