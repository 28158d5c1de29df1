-- Names from other crates that the definitions and clauses of this crate use.
pub use Rattle.respawn_limit.specs.declared.TheConstants.{CLOCK_LIMIT, STARTS, HOLD, WINDOW}
pub use Rattle.init_words.specs.declared.entries.Entry.{Entry}
pub use Rattle.init_words.specs.declared.levels.Mark.TheVariants.{OnCall, At}
pub use Rattle.init_words.specs.declared.stages.Stage.{Stage}
pub use Rattle.init_words.specs.declared.orders.OrderKind.{OrderKind}
pub use Rattle.init_words.specs.declared.orders.OrderKind.TheVariants.{Start, Term, Kill}
pub use Rattle.init_words.specs.Ids.{same_id}
pub use Rattle.init_words.specs.Levels.{names}
pub use Rattle.init_words.specs.Actions.{is_called_by, is_ondemand, stays_called, wanted_by, is_limited, served_by}
pub use Rattle.inittab_text.specs.Tables.{has_id, entry_of, act_of, is_distinct}
pub use Rattle.trace_events.specs.declared.happenings.Happening.TheVariants.{NewTable, Enter, Call, Power, Asked, Hold}
pub use Rattle.trace_events.specs.declared.happenings.Happening.TheVariants.{Birth, Reaped, Hit, Told, Clock, Settle}
pub use Rattle.trace_events.specs.Event.{Event}
pub use Rattle.trace_events.specs.Wanted.{starts_in, is_order, same_acts, may_live, entries_before, is_asked, is_called}
pub use Rattle.trace_events.specs.Wanted.{is_wanted, is_owed}
pub use Rattle.trace_events.specs.Lawful.{Fault, first_breach, broken}
pub use Rattle.trace_events.specs.Past.{table_of, stage_of, grace_of, time_of, Child, is_child_of, has_child, open_of}
pub use Rattle.trace_events.specs.Past.{unreaped_children, kept_children}
pub use Rattle.trace_events.specs.Timing.{start_times, hold_times, is_held, is_full}
pub use Rattle.indexmap.specs.IndexMap.{spare}
