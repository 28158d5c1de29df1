-- The output of the `diff --trace` command: init reads another inittab at the end of a trace.
use Rattle.std.specs.Prelude.{ℕ, List, drop, Option}
use Rattle.initview_command.specs.Words.{NamedText, Entry, Level, Event, reload_in, reloaded, ViewEnd}
use Rattle.initview_lines.specs.declared.lines.Line.{Line}
use Rattle.initview_command.specs.Showing.{stop_status}
use Rattle.initview_command.specs.Tables.{old_of, table_in}

-- the answer for the old and the new inittab, the level and the past of the trace
abbrev pub reload_said : List Entry → List Entry → Option Level → List Event → List Line
reload_said old new level past = reload_in old (reloaded new level past)

-- the answer and the exit status
abbrev pub reload_answer : List Entry → List Entry → Option Level → Option ViewEnd → List Event → List Line × ℕ
reload_answer old new level stop past = (reload_said old new level past, stop_status stop)

-- the answer for two files, the old inittab and the new one
abbrev pub reload_with : Option Level → List NamedText → Option ViewEnd → List Event → List Line × ℕ
reload_with level files = reload_answer (table_in (old_of files)) (table_in (drop 1 files)) level
