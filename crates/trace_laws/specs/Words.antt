-- Names from other crates that the definitions and clauses of this crate use.
pub use Rattle.init_words.specs.declared.levels.Level.{Level}
pub use Rattle.init_words.specs.declared.stages.Stage.TheVariants.{Run, Sysinit, Boot}
pub use Rattle.inittab_text.specs.Tables.{entry_of, is_distinct}
pub use Rattle.trace_events.specs.Event.{Event}
pub use Rattle.trace_events.specs.Past.{table_of, Child, has_number, unreaped_children, grace_of, time_of, is_child_of}
pub use Rattle.trace_events.specs.Wanted.{may_live, is_excluded, is_order, is_owed_before}
pub use Rattle.init_words.specs.declared.orders.OrderKind.TheVariants.{Start, Term}
pub use Rattle.trace_events.specs.declared.happenings.Happening.TheVariants.{Asked, Hold, Settle, Birth, Hit, NewTable}
pub use Rattle.trace_events.specs.declared.happenings.Happening.TheVariants.{Reaped, Told}
pub use Rattle.trace_events.specs.declared.steps.Goal.{Goal}
pub use Rattle.trace_events.specs.Sound.{is_sound, may_come}
pub use Rattle.trace_events.specs.declared.steps.Step.{Step}
pub use Rattle.trace_events.specs.Due.{due, first, same_step, is_announced}
pub use Rattle.init_words.specs.Entries.{starts_of, waited_of}
pub use Rattle.trace_events.specs.declared.steps.Step.TheVariants.{Order}
pub use Rattle.trace_events.specs.Agreement.{is_unreaped}
