-- Names from other crates that the definitions and clauses of this crate use.
pub use Rattle.program_io.specs.Writing.{AppendsFront, AppendsPrefix}
pub use Rattle.trace_events.specs.Event.{Event, act_in}
pub use Rattle.trace_events.specs.Past.{Child, has_number, is_dead, undone_of, unreaped_children, stage_of, undone_by}
pub use Rattle.trace_events.specs.Answered.{answered_of, answered_by}
pub use Rattle.trace_events.specs.declared.happenings.Happening.TheVariants.{Enter, Got, NewTable, NotRead, Birth}
pub use Rattle.trace_events.specs.declared.happenings.Happening.TheVariants.{NoBirth, Death, Reaped, Still, NoLook, Hit}
pub use Rattle.trace_events.specs.declared.happenings.Happening.TheVariants.{Miss, Told, Clock, Nudge, Asked}
pub use Rattle.trace_events.specs.declared.steps.Goal.{Goal}
pub use Rattle.core_model.specs.Fit.{last_statuses_of, core_read, FitsWithLastStatuses, FitsExtendedTrace}
pub use Rattle.core_model.specs.Fit.{ForAllFittedTraces, with_step}
pub use Rattle.core_model.specs.Parts.{state_of, SavedState}
pub use Rattle.core_model.specs.State.{CoreState, opening_goal}
pub use Rattle.core_model.specs.Steps.{wished, after_handed, after_handed_on, after_adopt}
pub use Rattle.inittab_text.specs.Reading.{table_of_text}
pub use Rattle.trace_text.specs.Lines.{event_text, trace_text}
pub use Rattle.trace_events.specs.Range.{are_in_range, is_in_range}
pub use Rattle.text_lines.specs.Lines.{newlines, ended}
pub use Rattle.trace_events.specs.Due.{due, first}
pub use Rattle.trace_events.specs.Run.{is_run, is_rest, is_reread, is_next}
pub use Rattle.child_table.specs.Lists.{is_quiet}
pub use Rattle.core_text.specs.Range.{has_short_seconds}
pub use Rattle.trace_events.specs.Wanted.{is_order}
pub use Rattle.init_words.specs.declared.entries.Entry.{Entry}
pub use Rattle.trace_events.specs.Sound.{may_come, is_sound}
pub use Rattle.init_words.specs.declared.levels.Level.{Level}
pub use Rattle.init_words.specs.declared.orders.OrderKind.{OrderKind}
pub use Rattle.init_words.specs.declared.orders.Answer.{Answer}
pub use Rattle.core_model.specs.Rules.{IsFit}
pub use Rattle.core_text.specs.Refused.{IsTextOf}
