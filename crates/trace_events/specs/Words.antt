-- Names from other crates that the definitions and clauses of this crate use.
pub use Rattle.init_words.specs.Ids.{same_id, is_id}
pub use Rattle.init_words.specs.declared.orders.Answer.{Answer}
pub use Rattle.respawn_limit.specs.declared.TheConstants.{HOLD, STARTS, WINDOW, CLOCK_LIMIT}
pub use Rattle.init_words.specs.declared.orders.OrderKind.TheVariants.{Start, Kill, Look, Term}
pub use Rattle.init_words.specs.declared.entries.Entry.{Entry}
pub use Rattle.init_words.specs.declared.levels.Level.{Level}
pub use Rattle.init_words.specs.declared.levels.Letter.{Letter}
pub use Rattle.init_words.specs.declared.levels.Mark.TheVariants.{At, OnCall}
pub use Rattle.init_words.specs.declared.stages.Stage.{Stage}
pub use Rattle.init_words.specs.declared.stages.Stage.TheVariants.{Sysinit, Boot, Run}
pub use Rattle.init_words.specs.declared.orders.OrderKind.{OrderKind}
pub use Rattle.init_words.specs.declared.orders.PowerKind.{PowerKind}
pub use Rattle.init_words.specs.Levels.{same_level, same_letter, names}
pub use Rattle.init_words.specs.Orders.{same_ask, same_power, same_stage}
pub use Rattle.init_words.specs.Actions.{is_limited, served_by, same_act, is_called_by, is_ondemand, stays_called}
pub use Rattle.init_words.specs.Actions.{wanted_by}
pub use Rattle.init_words.specs.Entries.{waited_of, starts_of, lives_of}
pub use Rattle.inittab_text.specs.Tables.{ids_of, has_id, entry_of, act_of, is_distinct}
pub use Rattle.init_words.specs.declared.actions.Act.{Act}
