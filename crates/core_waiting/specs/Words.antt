-- Names from other crates that the definitions and clauses of this crate use.
pub use Rattle.init_words.specs.Ids.{same_id}
pub use Rattle.init_words.specs.declared.entries.Entry.{Entry}
pub use Rattle.init_words.specs.declared.levels.Level.{Level}
pub use Rattle.init_words.specs.declared.stages.Stage.{Stage}
pub use Rattle.init_words.specs.Actions.{wanted_by, is_called_by}
pub use Rattle.init_words.specs.Entries.{starts_of, waited_of}
pub use Rattle.init_words.specs.Levels.{same_level, level_code}
pub use Rattle.trace_events.specs.declared.happenings.Happening.TheVariants.{NewTable, Reaped, Still, NoLook, Nudge}
pub use Rattle.trace_events.specs.declared.happenings.Happening.TheVariants.{Got, Enter, Call, Power, Asked}
pub use Rattle.trace_events.specs.declared.steps.Goal.{Goal}
pub use Rattle.trace_events.specs.Event.{Event}
pub use Rattle.trace_events.specs.Past.{Child, is_idle, table_of, stage_of, grace_of, time_of, kept_children}
pub use Rattle.trace_events.specs.Past.{is_child_of}
pub use Rattle.trace_events.specs.Past.{known_children, has_child, open_of, is_quiet}
pub use Rattle.trace_events.specs.Wanted.{is_excluded, is_order, is_wanted}
pub use Rattle.trace_events.specs.Spells.{spell_hits, is_missed, Signal, is_grace_over}
pub use Rattle.trace_events.specs.Wishes.{goal_of, are_calls_pending, in_run, powers, wants_reexec, wants_reread}
pub use Rattle.trace_events.specs.Wishes.{is_request_pending}
pub use Rattle.inittab_text.specs.Tables.{entry_of}
pub use Rattle.trace_events.specs.Due.{record_ids, due, first, is_announced, wants_look}
pub use Rattle.child_table.specs.State.{SlotState}
pub use Rattle.core_model.specs.State.{CoreState}
pub use Rattle.core_model.specs.Decide.{is_wanted_record, decide}
pub use Rattle.trace_events.specs.Run.{is_rest}
pub use Rattle.core_model.specs.Fit.{with_step, ForAllFittedTraces, FitsExtendedTrace}
pub use Rattle.init_words.specs.declared.stages.Stage.TheVariants.{Sysinit, Boot, Run}
pub use Rattle.trace_events.specs.Sound.{is_sound}
