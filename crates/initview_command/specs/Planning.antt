-- The output of the `plan --trace` command.
use Rattle.std.specs.Prelude.{ℕ, List, ◌++◌, Option}
use Rattle.initview_command.specs.Words.{NamedText, Entry, Level, Event, ViewEnd, marks_of}
use Rattle.initview_lines.specs.declared.lines.Line.{Line}
use Rattle.initview_lines.specs.Times.{times_in}
use Rattle.initview_command.specs.Showing.{stop_status}
use Rattle.initview_command.specs.Tables.{level_asked, plan_by, table_in}

-- the plan followed by the times, for the level, the inittab and the past of the trace
abbrev pub timing_said : Option Level → List Entry → List Event → List Line
timing_said level table past = plan_by level table ++ times_in (level_asked level table) table (marks_of past)

-- the answer and the exit status
abbrev pub timing_answer : Option Level → List Entry → Option ViewEnd → List Event → List Line × ℕ
timing_answer level table stop past = (timing_said level table past, stop_status stop)

-- the answer to the query, with the files of the inittab
abbrev pub timing_with : Option Level → List NamedText → Option ViewEnd → List Event → List Line × ℕ
timing_with level files = timing_answer level (table_in files)
