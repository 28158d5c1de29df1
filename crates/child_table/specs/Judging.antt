-- Which children a stage and a table exclude, and how that changes their records (init(8)).
use Rattle.std.specs.Prelude.{Bool, true, false, not, ◌&&◌, List, Option, Some, None}
use Rattle.std.specs.Option.{option_or}
use Rattle.init_words.specs.declared.entries.Entry.{Entry}
use Rattle.init_words.specs.declared.actions.Act.{Act}
use Rattle.init_words.specs.declared.stages.Stage.{Stage}
use Rattle.init_words.specs.Entries.{lives_of}
use Rattle.inittab_text.specs.Tables.{entry_of}
use Rattle.child_table.specs.declared.children.KnownChild.{KnownChild}
use Rattle.child_table.specs.declared.children.Stop.TheVariants.{Due}
use Rattle.child_table.specs.State.{SlotState, is_act}

-- a child born with this action is excluded: its id has no entry, or the entry has another action or does not let its
-- child live in the stage
abbrev pub is_excluded : Stage → Option Act → Option Entry → Bool
is_excluded stage born None = true
is_excluded stage born (Some e) = not (is_act e.act born && lives_of e stage)

-- the record after its child is judged: an excluded child must now be stopped, unless stopping it has already begun; a
-- child that is not excluded is no longer stopped
abbrev pub judged : Bool → SlotState → SlotState
judged true slot = record slot { stop = option_or slot.stop (Some Due) }
judged false slot = record slot { stop = None; missed = false }

-- the record after this table and stage decide whether its child, if it has one, is excluded
abbrev pub judged_child : Stage → List Entry → Option KnownChild → SlotState → SlotState
judged_child stage table None slot = slot
judged_child stage table (Some child) slot =
    judged (is_excluded stage child.act (entry_of slot.id table)) slot

-- the record after judging: marked for stopping if it has an excluded child, otherwise not
abbrev pub after_judge : List Entry → Stage → SlotState → SlotState
after_judge table stage slot = judged_child stage table slot.child slot
