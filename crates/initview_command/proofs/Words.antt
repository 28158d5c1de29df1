-- Names that all proofs of this crate import.
pub use Rattle.std.proofs.Common.{◌≡◌, ◌∙◌, [], ◌∷◌, ap, inl, inr, refl, sym, true, false, ℕ, Bool, codes, List, Option}
pub use Rattle.std.proofs.Common.{Some, None, subst, unwrap_or, IsSome, option_and_then, ◌+◌, ◌<◌, ◌≤◌, ◌++◌, Bor, drop}
pub use Rattle.std.proofs.Common.{get_or, length, map, append_assoc, arith, ◌-◌, ◌^◌, is_some, length-append}
pub use Rattle.std.proofs.Common.{option_map, Result, Ok, Err, IfOk, OnErr, reverse, string_bytes, rules, take}
pub use Rattle.std.proofs.Common.{◌*◌, min}
pub use Rattle.clap.specs.Words.{Row, all_of, is_simple_and_free, found_of, rows_of}
pub use Rattle.program_io.specs.declared.statuses.TheConstants.{DONE, DEVICE_FAULT, REFUSED}
pub use Rattle.program_io.specs.Known.{KnownTexts, IsTextAt}
pub use Rattle.command_words.specs.Faults.{reason_of, ReportsUsage}
pub use Rattle.initview_lines.specs.Outputs.{KnownOutput, WritesLines, WritesLinePrefix, WritesNothing}
pub use Rattle.initview_lines.proofs.SayingLemmas.{says_nothing, front_none, front_still, front_then, front_whole}
pub use Rattle.initview_lines.proofs.SayingLemmas.{says_then}
pub use Rattle.initview_command.specs.Asking.{PathTexts, asked_of, command_line, local_said, path_texts, paths_of}
pub use Rattle.initview_command.specs.Asking.{what_of, words_said}
pub use Rattle.initview_command.specs.Refusals.{fault_status}
pub use Rattle.initview_command.specs.Showing.{Answer, Gives, Shows, Writes, answer_value, is_within, unless_within}
pub use Rattle.initview_command.specs.Writers.{KnownWriters, IsWriterAt, present}
pub use Rattle.initview_command.specs.Endings.{Does, DoesTimed, EndsAs, EndsFor, EndsOf, EndsOn, EndsWhere, Refuses}
pub use Rattle.initview_command.specs.Endings.{timed}
pub use Rattle.std.proofs.lemmas.List.{drop_more, length-take, drop_all}
pub use Rattle.init_words.specs.Parts.{NamedText}
pub use Rattle.initview_command.specs.Tables.{AreFilesAt, AreFiles, old_of, FailsWith, level_asked, plan_by}
pub use Rattle.initview_command.specs.Tables.{Answers, AnswersOf, IsRefused}
pub use Rattle.initview_command.specs.WithFiles.{ShowsWith, ShowsWithFiles}
pub use Rattle.std.specs.Io.KnownBytes.{Consumes, IsAtEnd}
pub use Rattle.std.proofs.KnownBytes.{Consumes-trans}
pub use Rattle.program_io.specs.declared.takers.TheConstants.{PIECE_LIMIT, PIECES_LIMIT}
pub use Rattle.trace_view.specs.declared.text_views.ViewEnd.{ViewEnd}
pub use Rattle.initview_lines.specs.declared.lines.Line.{Line}
pub use Rattle.initview_command.specs.Following.{AreLinesOf, BeginsAllOf, FollowsAll, FollowsPart, HasLines, HasWritten}
pub use Rattle.initview_command.specs.Following.{IsAllOf, IsFor, IsHidden, Start, WritesAll, WritesPart, begins_run}
pub use Rattle.initview_command.specs.Following.{is_judged, judges, Follows}
pub use Rattle.initview_command.specs.Taking.{HasFollowed, HasKept, MayKeep, there_limit}
pub use Rattle.trace_events.specs.Event.{Event}
pub use Rattle.trace_view.specs.Viewing.{ViewAfterHappening, ViewState, Viewed}
pub use Rattle.initview_command.specs.declared.growing.Writer.{Writer}
pub use Rattle.initview_timeline.specs.Marks.{SeenMarks, marks_of}
pub use Rattle.std.proofs.lemmas.Grind.{common_steps}
pub use Rattle.program_io.proofs.WritingLemmas.{on_err}
pub use Rattle.trace_events.specs.declared.happenings.Happening.TheVariants.{Clock, Got, NewTable}
pub use Rattle.std.specs.List.{list_all}
pub use Rattle.inittab_lint.specs.Programs.{is_missing}
pub use Rattle.initview_lines.specs.Reloads.{reloaded, with_request, entered}
