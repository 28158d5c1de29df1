-- The reports about the children that init waited for (initd(8), DIAGNOSTICS).
use Rattle.std.specs.Prelude.{ℕ, Bool, true, false, ◌||◌, ◌==◌, if◌then◌else◌, List, Option, Some, None}
use Rattle.std.specs.Option.{option_map_or}
use Rattle.init_words.specs.declared.actions.Act.{Act}
use Rattle.init_words.specs.declared.actions.Act.TheVariants as act
use Rattle.init_words.specs.declared.children.Status.TheVariants as status
use Rattle.init_words.specs.declared.stages.Stage.{Stage}
use Rattle.init_words.specs.Entries.{lives_of}
use Rattle.inittab_text.specs.Tables.{entry_of}
use Rattle.core_model.specs.Words.{SlotState, child_number}
use Rattle.level_core.specs.Words.{record_by_id}
use Rattle.initd_command.specs.Words.{CoreState, Entry, Status}

-- how a child ended, unless it ended with exit status 0
abbrev pub failed_end : Option Status → Option Status
failed_end (Some (status.Exit code)) = if code == 0 then None else Some (status.Exit code)
failed_end last = last

-- init goes to the next stage after an entry with this action has ended
abbrev pub starts_next_stage : Act → Bool
starts_next_stage act.Sysinit = true
starts_next_stage act.Bootwait = true
starts_next_stage _ = false

-- the stage did not stop the entry's child: the child may run in the stage, or init goes to the next stage after an
-- entry with this action has ended
abbrev pub was_not_stopped : Entry → Stage → Bool
was_not_stopped entry stage = starts_next_stage entry.act || lives_of entry stage

-- the record has a child with this number
abbrev pub holds_child : ℕ → SlotState → Bool
holds_child number slot = option_map_or (λ held. held == number) (child_number slot) false

-- the failure to report for the child with this number, for which init waited, given the entry and the record of its
-- id, and the stage: how the child ended, if it is gone, failed, and was not stopped because of the stage
abbrev pub told_of_child : Option Entry → Option SlotState → Option Stage → ℕ → Option Status
told_of_child (Some entry) (Some slot) (Some stage) number =
    if holds_child number slot then None else if was_not_stopped entry stage then failed_end slot.last else None
told_of_child _ _ _ number = None

-- the failure to report for this child, given the state of the core
abbrev pub failure_of : CoreState → List ℕ → ℕ → Option Status
failure_of core id number =
    told_of_child (entry_of id core.table) (record_by_id id core.slots) core.fields.stage number
