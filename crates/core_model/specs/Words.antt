-- Names from other crates that the definitions and clauses of this crate use.
pub use Rattle.init_words.specs.declared.entries.Entry.{Entry}
pub use Rattle.init_words.specs.declared.levels.Level.{Level}
pub use Rattle.init_words.specs.declared.levels.Level.TheVariants.{S}
pub use Rattle.init_words.specs.declared.levels.Mark.TheVariants.{At, OnCall}
pub use Rattle.init_words.specs.declared.stages.Stage.{Stage}
pub use Rattle.init_words.specs.declared.orders.OrderKind.TheVariants.{Start, Look, Term, Kill}
pub use Rattle.init_words.specs.Actions.{wanted_by, is_limited, served_by, is_called_by, is_ondemand}
pub use Rattle.init_words.specs.Entries.{starts_of, waited_of, lives_of}
pub use Rattle.init_words.specs.Levels.{same_level, names}
pub use Rattle.respawn_limit.specs.Window.{may_of, is_held, last_starts}
pub use Rattle.trace_events.specs.declared.steps.Step.{Step}
pub use Rattle.trace_events.specs.declared.steps.Step.TheVariants.{Order, Settle, Reread, Reexec, Idle, Call, Power}
pub use Rattle.trace_events.specs.declared.steps.Goal.{Goal}
pub use Rattle.trace_events.specs.Wanted.{is_order, is_asked, is_called, same_acts, adds_or_changes, starts_in}
pub use Rattle.trace_events.specs.Wishes.{in_run, goal_of, wants_reexec, wants_reread, level_wish, was_booted}
pub use Rattle.child_table.specs.declared.children.Stop.{Stop}
pub use Rattle.child_table.specs.declared.children.Stop.TheVariants.{Due, Termed, Killed}
pub use Rattle.child_table.specs.State.{SlotState, child_number, birth_act, is_limited_record, new_record}
pub use Rattle.child_table.specs.Changes.{allows, after_order, after_hold, after_call, after_enter, after_nudge}
pub use Rattle.child_table.specs.Lists.{is_quiet, is_record_of, is_numbered, are_distinct}
pub use Rattle.respawn_limit.specs.declared.TheConstants.{HOLD, CLOCK_LIMIT, STARTS, WINDOW}
pub use Rattle.respawn_limit.specs.State.{LimiterState, unused}
pub use Rattle.init_words.specs.declared.orders.Answer.{Answer}
pub use Rattle.init_words.specs.Ids.{same_id}
pub use Rattle.inittab_text.specs.Tables.{entry_of, act_of, has_id, default_level_of}
pub use Rattle.trace_events.specs.Event.{Event}
pub use Rattle.trace_events.specs.Past.{Child, is_child_of, has_child, open_of, table_of, stage_of, grace_of, time_of}
pub use Rattle.trace_events.specs.Past.{known_children, unreaped_children}
pub use Rattle.trace_events.specs.Sound.{is_sound}
pub use Rattle.child_table.specs.declared.children.KnownChild.{KnownChild}
pub use Rattle.init_words.specs.declared.actions.Act.{Act}
pub use Rattle.init_words.specs.declared.stages.Stage.TheVariants.{Run, Sysinit, Boot}
pub use Rattle.trace_events.specs.declared.happenings.Happening.TheVariants.{NewTable, Asked, Birth, Told, Hit}
pub use Rattle.trace_laws.specs.Stretches.{is_steady, is_reaping_of, count_starts, is_order_of, is_stoppable}
pub use Rattle.trace_events.specs.Agreement.{has_untold_birth, has_untold_end, Agrees, is_unreaped}
pub use Rattle.child_table.specs.Judging.{after_judge}
