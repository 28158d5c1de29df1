-- Why a child is stopped after inittab was read again.
use Rattle.std.specs.Prelude.{Bool, true, false, Option, Some, None, if◌then◌else◌}
use Rattle.init_words.specs.declared.entries.Entry.{Entry}
use Rattle.init_words.specs.declared.stages.Stage.{Stage}
use Rattle.init_words.specs.declared.actions.Act.{Act}
use Rattle.init_words.specs.declared.actions.Act.TheVariants as act
use Rattle.init_words.specs.Entries.{lives_of}
use Rattle.host_lines.specs.declared.costs.ChildLine.{ChildLine}
use Rattle.host_lines.specs.declared.costs.ChildLine.TheVariants as line

-- the action is `off`
abbrev pub is_off : Act → Bool
is_off act.Off = true
is_off _ = false

-- how a table affects a child in a stage, given the table's entry for the child's id, if there is one
abbrev pub line_of : Option Entry → Stage → ChildLine
line_of None stage = line.Gone
line_of (Some entry) stage =
    if is_off entry.act then line.Off else if lives_of entry stage then line.ActionChanged else line.NotInLevel

-- the child is stopped because inittab was read again: always if its line is gone or off, otherwise only if the stage
-- has not changed since inittab was read
abbrev pub stops_child : ChildLine → Bool → Bool
stops_child line.Gone same = true
stops_child line.Off same = true
stops_child _ same = same
