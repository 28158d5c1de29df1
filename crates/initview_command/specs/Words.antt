-- Names from other crates that the definitions and clauses of this crate use.
pub use Rattle.clap.specs.Words.{App, Text, all_of, first_of, found_of, rows_of}
pub use Rattle.text_lines.specs.Numbers.{number_read}
pub use Rattle.command_words.specs.CommandLines.{given_by, is_set, line_of, value_said, written, asks_version, text_of}
pub use Rattle.init_words.specs.declared.levels.Level.{Level}
pub use Rattle.trace_events.specs.Event.{Event}
pub use Rattle.initview_timeline.specs.Rows.{drawn_of, timeline_of, scene_of}
pub use Rattle.program_io.specs.declared.statuses.TheConstants.{DONE, REFUSED, DEVICE_FAULT, UNLAWFUL}
pub use Rattle.program_io.specs.Known.{KnownTexts, IsTextAt}
pub use Rattle.command_words.specs.VersionLine.{version_line}
pub use Rattle.initview_lines.specs.Outputs.{KnownOutput, WritesNothing, WritesLines, WritesLinePrefix}
pub use Rattle.initview_lines.specs.Outputs.{with_local_times}
pub use Rattle.init_words.specs.Parts.{NamedText, texts_of}
pub use Rattle.trace_view.specs.declared.text_views.ViewEnd.{ViewEnd}
pub use Rattle.init_words.specs.declared.entries.Entry.{Entry}
pub use Rattle.initview_timeline.specs.Marks.{marks_of, seen_of}
pub use Rattle.command_words.specs.Faults.{ReportsUsage, reason_of}
pub use Rattle.program_io.specs.Reports.{AppendsReport, ReportList}
pub use Rattle.initview_lines.specs.Reloads.{reload_in, reloaded, gone_on, with_request}
pub use Rattle.inittab_lint.specs.Programs.{is_missing}
pub use Rattle.program_io.specs.declared.takers.TheConstants.{PIECE_LIMIT, PIECES_LIMIT}
pub use Rattle.trace_events.specs.declared.happenings.Happening.TheVariants.{Clock, NewTable}
pub use Rattle.trace_events.specs.Past.{time_of}
pub use Rattle.trace_view.specs.Viewing.{Viewed}
