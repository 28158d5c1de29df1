-- Names from other crates that the definitions and clauses of this crate use.
pub use Rattle.init_words.specs.declared.entries.Entry.{Entry}
pub use Rattle.init_words.specs.Actions.{ignores_levels, is_called_by, is_ondemand, wanted_by, is_limited}
pub use Rattle.init_words.specs.Ids.{same_id}
pub use Rattle.trace_events.specs.declared.happenings.Happening.TheVariants.{Birth, NewTable, Enter, Call, Power, Asked}
pub use Rattle.trace_events.specs.declared.happenings.Happening.TheVariants.{Hold, NoBirth, Reaped, Got, Told, NotRead}
pub use Rattle.trace_events.specs.declared.happenings.Happening.TheVariants.{Handed}
pub use Rattle.trace_events.specs.Event.{Event}
pub use Rattle.trace_events.specs.Past.{time_of, Child, is_child_of, newborn, table_of, stage_of, open_of}
pub use Rattle.trace_events.specs.Past.{unreaped_children}
pub use Rattle.trace_events.specs.Past.{has_number, is_child, kept_children, grace_of}
pub use Rattle.trace_events.specs.Wanted.{same_acts, is_excluded, may_live, starts_now, is_wanted, is_owed}
pub use Rattle.trace_events.specs.Wanted.{entries_before, is_order, starts_in}
pub use Rattle.init_words.specs.declared.levels.Letter.{Letter}
pub use Rattle.init_words.specs.declared.orders.PowerKind.{PowerKind}
pub use Rattle.init_words.specs.Levels.{same_letter, same_level}
pub use Rattle.init_words.specs.Orders.{same_power}
pub use Rattle.text_lines.specs.Lines.{newlines}
pub use Rattle.init_words.specs.declared.stages.Stage.{Stage}
pub use Rattle.trace_events.specs.Wishes.{is_level, was_booted, in_run, other_than, wants_reexec, wants_reread}
pub use Rattle.trace_events.specs.Wishes.{last_requested_level, level_wish, are_calls_pending}
pub use Rattle.trace_text.specs.Lines.{trace_text, event_text}
pub use Rattle.trace_check.specs.State.{at}
pub use Rattle.init_words.specs.declared.stages.Stage.TheVariants.{Run, Sysinit, Boot}
pub use Rattle.inittab_text.specs.Tables.{entry_of, act_of, is_distinct}
pub use Rattle.trace_events.specs.Due.{is_settled, is_announced, enter_level, due_starts, same_step}
pub use Rattle.trace_check.specs.Reading.{child_of, term_of, newest}
pub use Rattle.trace_events.specs.Lawful.{broken, first_breach}
pub use Rattle.trace_events.specs.Range.{are_in_range}
pub use Rattle.trace_check.specs.declared.laws.Law.{Law}
pub use Rattle.trace_check.specs.Laws.{law_number}
pub use Rattle.trace_verdict.specs.Fronts.{IsFront, IsTorn, is_open, line_left}
pub use Rattle.trace_verdict.specs.Readers.{Reading, capped}
pub use Rattle.init_words.specs.declared.orders.OrderKind.TheVariants.{Start}
