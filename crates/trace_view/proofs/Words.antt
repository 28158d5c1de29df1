-- Names that all proofs of this crate import.
pub use Rattle.std.proofs.Common.{◌≡◌, refl, sym, ◌∙◌, ap, ℕ, Bool, true, ◌&&◌, ◌||◌, cond, List, [], ◌∷◌, ◌++◌, find}
pub use Rattle.std.proofs.Common.{Option, Some, None, length, arith, ◌+◌, ◌^◌, ◌<◌, ◌≤◌, reverse, false, not, is_none}
pub use Rattle.std.proofs.Common.{is_some, ◌==◌, append-nil, subst, codes, rules, option_copied}
pub use Rattle.std.specs.List.{list_any}
pub use Rattle.std.specs.Option.{option_or, option_map_or}
pub use Rattle.std.proofs.lemmas.List.Folds.{find-append, list_any-append}
pub use Rattle.init_words.specs.declared.entries.Entry.{Entry}
pub use Rattle.init_words.specs.declared.orders.OrderKind.TheVariants.{Start, Look, Term}
pub use Rattle.init_words.specs.Actions.{waited_by, wanted_by, is_limited}
pub use Rattle.init_words.specs.Ids.{same_id}
pub use Rattle.init_words.proofs.Same.{same_id-self, same_id-flip, same_id-is}
pub use Rattle.inittab_text.specs.Tables.{entry_of, has_id, is_distinct, act_of}
pub use Rattle.trace_events.specs.Event.{Event}
pub use Rattle.trace_events.specs.Past.{has_child, kept_children, open_of, table_of, stage_of, time_of}
pub use Rattle.trace_events.specs.Past.{unreaped_children, Child, is_child_of, is_child}
pub use Rattle.trace_events.specs.Wanted.{entries_before, is_order, is_owed, is_wanted, starts_now}
pub use Rattle.trace_events.specs.Wanted.{has_no_running_child}
pub use Rattle.trace_events.specs.Wanted.{is_asked, is_called, is_excluded, starts_in}
pub use Rattle.trace_view.specs.Why.{entry_id, first_awaited, standing_of, not_here, not_wanted, why_by, why_entry, why}
pub use Rattle.trace_view.specs.Why.{is_nothing, number_of, excluded_as, first_owed, stops_now}
pub use Rattle.std.proofs.lemmas.List.{reverse-reverse, append_assoc}
pub use Rattle.text_lines.specs.Lines.{newlines}
pub use Rattle.init_words.specs.declared.stages.Stage.{Stage}
pub use Rattle.trace_text.specs.Lines.{trace_text, event_text}
pub use Rattle.trace_check.specs.State.{at}
pub use Rattle.trace_verdict.specs.Readers.{capped, Reading, ReadsNext}
pub use Rattle.trace_view.specs.LastLines.{LinesState, Lined, line_after, kinds_of, names, born_in, early_in}
pub use Rattle.trace_view.specs.LastLines.{early_line, unborn_in, reaped_in, ordered_in, held_in, last_of, is_table}
pub use Rattle.trace_view.specs.LastLines.{following_line, line_at_fault}
pub use Rattle.trace_view.specs.Views.{TextState, IsAt, HasSeen, StopsBy, AtBy, TakenBy, ViewGoesOn, SeesStop, left_of}
pub use Rattle.trace_view.specs.Views.{may_be, seen_by}
pub use Rattle.std.proofs.lemmas.Bool.{and_parts, not-true, eqb-true}
pub use Rattle.init_words.specs.declared.actions.Act.{Act}
pub use Rattle.init_words.specs.declared.orders.OrderKind.{OrderKind}
pub use Rattle.init_words.proofs.Tests.{and_false, find_none, none_found, found_any}
pub use Rattle.trace_events.specs.declared.steps.Goal.{Goal}
pub use Rattle.trace_events.specs.Timing.{hold_times, is_held, is_full}
pub use Rattle.trace_events.specs.Wishes.{wants_reexec, wants_reread, level_wish, in_run, are_calls_pending}
pub use Rattle.trace_events.specs.Wishes.{is_request_pending}
pub use Rattle.trace_events.specs.Wishes.{was_booted}
pub use Rattle.trace_check.specs.Reading.{newest, child_of, term_of}
pub use Rattle.trace_check.proofs.Lone.{found_passes}
pub use Rattle.trace_view.specs.declared.standings.Excluded.{Excluded}
pub use Rattle.trace_view.specs.declared.standings.Standing.{Standing}
pub use Rattle.trace_view.specs.declared.wishes.Wish.{Wish}
pub use Rattle.trace_view.specs.declared.whys.Why.TheVariants.{NoEntry, WindowFull, Nothing, RanBefore, StageOver}
pub use Rattle.trace_view.specs.declared.whys.Why.TheVariants.{OtherStage, ChildKept, NotCalled, WasStarted}
pub use Rattle.trace_view.specs.Wishes.{first_of, first_wish, wishes_of, first_wish_in}
pub use Rattle.trace_check.specs.Judging.{Judged, JudgeAfterHappening}
pub use Rattle.trace_view.specs.Births.{births_of, early_children, ran_early, is_born_as}
pub use Rattle.trace_view.specs.Calls.{calls_of, was_named, is_named_by}
pub use Rattle.trace_view.specs.Rows.{ended_of, row_of, complete_in}
pub use Rattle.trace_view.specs.Viewing.{ViewState, Viewed, is_excluded_by}
pub use Rattle.trace_text.proofs.ReadTexts.{trace_text-push, are_in_range-push, shorter}
pub use Rattle.trace_check.specs.Laws.{law_number}
pub use Rattle.trace_verdict.specs.Fronts.{BeginsNever, line_left}
pub use Rattle.trace_verdict.proofs.Judging.{capped_is, lines_push, lines_within, one_line, past_push}
pub use Rattle.trace_view.specs.Shown.{IsBefore, IsShown, StopsAt, begins_run}
pub use Rattle.trace_view.specs.SeenTexts.{HasSeenText, IsSeeing}
pub use Rattle.trace_view.specs.declared.wishes.Wishes.{Wishes}
pub use Rattle.std.proofs.lemmas.Fn.{filter_same}
