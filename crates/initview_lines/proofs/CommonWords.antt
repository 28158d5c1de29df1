-- Names that all proofs of this crate import.
pub use Rattle.std.proofs.Common.{◌≡◌, refl, ap, ℕ, true, false, List, [], Option, Some, None, Bool, cond, ◌∷◌, ◌++◌}
pub use Rattle.std.proofs.Common.{reverse, sym, ◌∙◌, subst, ◌+◌, ◌^◌, ◌<◌, ◌≤◌, length, arith, filter, is_some, map}
pub use Rattle.std.proofs.Common.{rules, option_copied}
pub use Rattle.init_words.specs.declared.levels.Level.{Level}
pub use Rattle.init_words.specs.declared.entries.Entry.{Entry}
pub use Rattle.init_words.specs.declared.stages.Stage.{Stage}
pub use Rattle.trace_events.specs.Event.{Event}
pub use Rattle.trace_events.specs.Past.{is_quiet, stage_of, time_of, table_of, Child, grace_of, unreaped_children}
pub use Rattle.trace_view.specs.Wishes.{entered_by, next_stage, asked_level, first_wish}
pub use Rattle.initview_lines.specs.Reloads.{read_again, idle_entry, idle_change, stopped_change, kept_change}
pub use Rattle.initview_lines.specs.Reloads.{change_by, line_now, entry_now, is_new}
pub use Rattle.trace_verdict.proofs.Judging.{past_push, capped_is, lines_push, lines_within}
pub use Rattle.trace_view.specs.Viewing.{Viewed, ViewState}
pub use Rattle.trace_view.specs.Views.{TextState, ViewGoesOn, IsAt, left_of}
pub use Rattle.trace_view.proofs.SeenTexts.{seen_at, stops_more, shown}
pub use Rattle.initview_lines.specs.declared.lines.Line.{Line}
pub use Rattle.initview_lines.specs.Happenings.{follow_in, happening_lines, line_at, news_of}
pub use Rattle.initview_lines.specs.Following.{IsFollowingText, HasFollowedText, FollowsText, AreFollowedLines}
pub use Rattle.std.specs.Option.{option_map, option_map_or}
pub use Rattle.trace_verdict.specs.Fronts.{BeginsNever, line_left}
pub use Rattle.trace_verdict.specs.Readers.{Reading, capped, ReadsNext}
pub use Rattle.trace_view.specs.declared.text_views.ViewEnd.{ViewEnd}
pub use Rattle.trace_view.specs.Shown.{ShownBy, StopsAt, IsShown}
pub use Rattle.initview_lines.specs.Parts.{HasTold, IsReadOf, IsTelling, IsToldOf, PartState, ReadBy, TakenBy, TellsOn}
pub use Rattle.initview_lines.specs.Parts.{part_in}
pub use Rattle.trace_laws.specs.Plans.{path_along}
pub use Rattle.initview_lines.specs.Plans.{last_of, path_lines, stages_lines, waiting}
pub use Rattle.inittab_text.specs.Tables.{entry_of, act_of}
pub use Rattle.trace_view.specs.declared.rows.Row.{Row}
pub use Rattle.trace_events.specs.Due.{is_announced}
pub use Rattle.trace_view.specs.Rows.{row_of, is_complete_now, gone_ids}
pub use Rattle.initview_lines.specs.Changes.{same_process, is_gone}
pub use Rattle.initview_lines.specs.Rows.{head_of, id_row, row_by, entry_row, row_at}
pub use Rattle.initview_lines.specs.Left.{child_line}
pub use Rattle.initview_lines.specs.Times.{timed_of}
