-- A parsed command line, as lists.
use Rattle.std.specs.Prelude.{map}
use Rattle.std.specs.Option.{option_map}
use Rattle.rclinks_command.specs.Command as command
use Rattle.rclinks_command.specs.declared.line.Line.{Line}

abbrev pub line_options : Line → command.Line
line_options line = record {
  all = line.all;
  skips = line.skips;
  last = line.last;
  dry = line.dry;
  bare = line.bare;
  keeps = line.keeps;
  prunes = line.prunes;
  dir = option_map (λ dir. dir.now) line.dir;
  files = map (λ file. file.now) line.files.now;
}
