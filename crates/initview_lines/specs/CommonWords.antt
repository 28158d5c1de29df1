-- Names from other crates that the definitions and clauses of this crate use.
pub use Rattle.init_words.specs.declared.actions.Act.{Act}
pub use Rattle.init_words.specs.declared.entries.Entry.{Entry}
pub use Rattle.init_words.specs.declared.levels.Level.{Level}
pub use Rattle.inittab_text.specs.Tables.{entry_of, act_of}
pub use Rattle.trace_events.specs.Wanted.{may_live, starts_now, is_asked, is_excluded}
pub use Rattle.trace_laws.specs.Plans.{is_started, stages_to, critical_path, started_in, is_on_path, path_along}
pub use Rattle.trace_events.specs.Event.{Event}
pub use Rattle.trace_view.specs.declared.text_views.ViewEnd.{ViewEnd}
pub use Rattle.trace_view.specs.Shown.{IsShown, ShownBy, StopsAt}
pub use Rattle.trace_view.specs.Views.{TextState, HasShown, IsAt, left_of}
pub use Rattle.trace_events.specs.declared.happenings.Happening.TheVariants.{NewTable, NotRead, Enter, Call, Power}
pub use Rattle.trace_events.specs.declared.happenings.Happening.TheVariants.{Hold, Settle, Birth, NoBirth, Reaped}
pub use Rattle.trace_events.specs.declared.happenings.Happening.TheVariants.{NoLook, Hit, Miss, Got, Handed}
pub use Rattle.trace_events.specs.Past.{open_of, time_of, Child, table_of, unreaped_children, stage_of, grace_of}
pub use Rattle.trace_events.specs.Past.{is_quiet}
pub use Rattle.trace_check.specs.Reading.{child_of}
pub use Rattle.trace_view.specs.Why.{number_of}
pub use Rattle.trace_view.specs.declared.rows.Row.{Row}
pub use Rattle.trace_events.specs.Due.{is_announced}
pub use Rattle.trace_view.specs.Rows.{row_of, gone_ids, is_complete_now}
pub use Rattle.trace_verdict.specs.Readers.{Reading, capped}
pub use Rattle.init_words.specs.declared.stages.Stage.{Stage}
pub use Rattle.init_words.specs.Entries.{waited_of}
pub use Rattle.trace_view.specs.declared.whys.Why.{Why}
pub use Rattle.trace_view.specs.LastLines.{line_at_fault, Lined}
pub use Rattle.trace_view.specs.Wishes.{next_stage, asked_level, first_wish}
pub use Rattle.trace_view.specs.declared.rows.Ending.{Ending}
pub use Rattle.trace_view.specs.Viewing.{Viewed}
pub use Rattle.trace_verdict.specs.Fronts.{line_left}
