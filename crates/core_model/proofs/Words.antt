-- Names that the proofs of this crate share.
pub use Rattle.std.proofs.Common.{arith, ◌≡◌, refl, sym, ◌∙◌, ap, ℕ, Bool, true, false, not, ◌&&◌, ◌||◌, cond, List, []}
pub use Rattle.std.proofs.Common.{◌∷◌, map, find, Option, Some, None, is_some, zip, nat_lt, ◌≤◌, ◌+◌, subst, ◌++◌}
pub use Rattle.std.proofs.Common.{filter, length, lit≤, le_trans, is_none, nat_le, ◌<◌, zero, suc, get_or, ◌==◌, ◌⊎◌}
pub use Rattle.std.proofs.Common.{inl, inr, codes, Ok, append-nil, reverse, ◌≢◌, max, min, ◌-◌, drop, length-drop}
pub use Rattle.std.proofs.Common.{Result, Err, All}
pub use Rattle.std.specs.List.{list_any, list_all}
pub use Rattle.std.specs.Option.{option_map, option_map_or, option_or}
pub use Rattle.std.proofs.lemmas.Bool.{false≢true, and_parts, and_from, not-true, or_parts, le-leb, ltb-true, leb-true}
pub use Rattle.std.proofs.lemmas.Bool.{eqb-true, and_right, or_left, eq-eqb, or_right, not_from_false}
pub use Rattle.std.proofs.lemmas.Option.{none-some, same_Some}
pub use Rattle.init_words.specs.Ids.{same_id}
pub use Rattle.init_words.proofs.Same.{same_id-is, same_id-self, same_id-from, same_id-sym, same_level-self}
pub use Rattle.init_words.proofs.Same.{same_act-self}
pub use Rattle.init_words.proofs.Tests.{both_ways, falsely, found_any, any_less, or_either, any_within, any_filtered}
pub use Rattle.init_words.proofs.Tests.{any_filter, not_from, and_false, or_false, or_true, same_tests, passing}
pub use Rattle.init_words.proofs.Tests.{any_same, is_none-is, any_none, filter_both, filter_within, find_none, and_true}
pub use Rattle.trace_events.specs.declared.happenings.Happening.TheVariants.{Birth, NoBirth, Death, Reaped, Still}
pub use Rattle.trace_events.specs.declared.happenings.Happening.TheVariants.{NewTable, Asked, Told, Nudge, Clock}
pub use Rattle.trace_events.specs.declared.steps.Goal.{Goal}
pub use Rattle.trace_events.specs.Event.{Event}
pub use Rattle.trace_events.specs.Past.{Child, is_child_of, has_child, kept_children, known_children, table_of}
pub use Rattle.trace_events.specs.Past.{open_orders}
pub use Rattle.trace_events.specs.Past.{stage_of, undone_of, grace_of, time_of, is_child, newborn, unreaped_children}
pub use Rattle.trace_events.specs.Past.{open_of}
pub use Rattle.trace_events.specs.Spells.{spell_hits, is_missed, Signal, stop_by, stop_due, untold_hits}
pub use Rattle.trace_events.specs.Spells.{has_untold_miss, told_at}
pub use Rattle.trace_events.specs.Due.{record_ids, wants_look, removed_ids, due, first, steps_if, due_first, due_reexec}
pub use Rattle.trace_events.specs.Due.{due_reread, due_level, due_news, due_stops, due_starts, due_stage, due_settle}
pub use Rattle.trace_events.specs.Due.{due_looks, enter_level, power_steps, letter_steps, stops_among, starts_among}
pub use Rattle.trace_events.specs.Due.{is_announced, step_if, is_served, is_settled, can_start, start_steps}
pub use Rattle.trace_events.specs.Due.{looks_among, same_step, stops_of}
pub use Rattle.trace_events.specs.Sound.{is_sound, may_come}
pub use Rattle.trace_laws.proofs.Orders.{known_kept, idle_none, told_finds, open_listed, told_other, same_has}
pub use Rattle.trace_laws.proofs.Births.{birth_ready, birth_in_turn, birth_spared, sound_step, step_at, one_child}
pub use Rattle.trace_laws.proofs.Births.{one_child_at, is_table}
pub use Rattle.trace_laws.proofs.Spells.{is_still, spell_still, missed_still, spell_birth, missed_none, spell_nudge}
pub use Rattle.trace_laws.proofs.Spells.{spell_none, spell_enter, missed_enter, spell_table, missed_table, spell_told}
pub use Rattle.trace_laws.proofs.Spells.{missed_told, Tells, answered_tells}
pub use Rattle.child_table.specs.Lists.{record_by_id, is_record_of, are_distinct, can_ask_of, can_ask, has_record_of}
pub use Rattle.child_table.specs.Lists.{changed, with_changed, is_busy, is_numbered, order_of, order_in, without}
pub use Rattle.child_table.specs.Lists.{refusal_of, ends_record}
pub use Rattle.core_model.specs.Fit.{LastStatuses, child_known, living, known_child, stop_known, stop_of, is_to_look}
pub use Rattle.core_model.specs.Fit.{was_missed, records_of, Fits, core_read, HasLastStatuses, FitsWithLastStatuses}
pub use Rattle.core_model.specs.Fit.{FitsExtendedTrace, last_statuses_after}
pub use Rattle.core_model.specs.Fit.{last_statuses_of, with_last_statuses, fields_of, limiter_by, last_hold_end}
pub use Rattle.core_model.specs.Fit.{stop_after, asked_of}
pub use Rattle.core_model.specs.Fit.{called_of, limiter_of, limits_of, with_step, last_status_after}
pub use Rattle.std.proofs.lemmas.Bool.Decides.{nat_tests}
pub use Rattle.init_words.specs.declared.entries.Entry.{Entry}
pub use Rattle.init_words.specs.declared.stages.Stage.{Stage}
pub use Rattle.init_words.specs.declared.orders.OrderKind.{OrderKind}
pub use Rattle.init_words.specs.declared.orders.OrderKind.TheVariants.{Term, Kill, Start, Look}
pub use Rattle.respawn_limit.specs.Window.{may_of, with_start, with_hold, last_starts}
pub use Rattle.trace_events.specs.declared.steps.Step.{Step}
pub use Rattle.trace_events.specs.declared.steps.Step.TheVariants.{Order, Reread, Reexec, Idle}
pub use Rattle.child_table.specs.declared.children.Stop.{Stop}
pub use Rattle.child_table.specs.State.{SlotState, is_limited_record, new_record, act_born_with, stays_called_record}
pub use Rattle.child_table.specs.Order.{IsInOrder}
pub use Rattle.child_table.specs.Changes.{allows, can_be_asked, after_order, after_hold, after_nudge, after_hit}
pub use Rattle.child_table.specs.Changes.{after_answer, is_over, after_call, after_enter}
pub use Rattle.trace_events.specs.CallSets.{contains_kind, contains_letter, first_pending_step, has_news, with_kind}
pub use Rattle.trace_events.specs.CallSets.{with_call}
pub use Rattle.trace_events.specs.CallSets.{news_count, pending_calls}
pub use Rattle.core_model.specs.Rules.{may_follow, is_non_decreasing, IsFit, has_cause, is_birth_known}
pub use Rattle.core_model.specs.Rules.{is_order_allowed}
pub use Rattle.core_model.specs.Rules.{is_stop_judged, are_marks_consistent, is_limiter_consistent, are_starts_in}
pub use Rattle.core_model.specs.Rules.{are_starts_free}
pub use Rattle.core_model.specs.Rules.{is_level_wish_valid, is_goal_reached, do_fields_obey, does_record_obey}
pub use Rattle.core_model.specs.Rules.{do_records_obey, is_limit_kept, is_unused, is_kept, is_started}
pub use Rattle.core_model.specs.Rules.{are_starts_along, is_excluded_in, allows_order, is_child_excluded}
pub use Rattle.core_model.specs.Rules.{may_be_signalled, is_callable, is_hold_of, is_start_allowed}
pub use Rattle.core_model.specs.State.{CoreState, opening_fields, opening_state}
pub use Rattle.core_model.specs.Work.{stages_left, enters_left, unheld, unasked, work_left}
pub use Rattle.core_model.specs.Decide.{or_else, or_idle, wished_step, stop_step, stop_among, is_owed_record}
pub use Rattle.core_model.specs.Decide.{start_step, start_along, stage_step, settle_step, look_among, calm_step}
pub use Rattle.core_model.specs.Decide.{work_step, decide_in, decide, level_step, news_step, signal_step, limited_step}
pub use Rattle.core_model.specs.Decide.{start_among, can_look_record, can_start_record, is_over_among, all_served}
pub use Rattle.core_model.specs.Decide.{has_excluded, stands, wish_step, all_done, is_wanted_record, is_done_record}
pub use Rattle.core_model.specs.Decide.{is_served_record}
pub use Rattle.std.proofs.lemmas.List.Elements.{filter-append, filter_agree, All-push}
pub use Rattle.inittab_text.specs.Tables.{has_id, ids_of, is_distinct, entry_of, act_of}
pub use Rattle.trace_laws.proofs.Keeps.{sound_holds, sound_ind, keeps, not_placed, asked_free, entry_listed}
pub use Rattle.trace_laws.proofs.Stopping.{left_apart, dawn_known, hits_are, hits_shape, born_open, newborn_spared}
pub use Rattle.trace_laws.proofs.Stopping.{unborn_childless, unborn_unlooked, signal_excluded, signal_unmissed}
pub use Rattle.trace_laws.proofs.Stopping.{has_after, told_leaves, answered_known}
pub use Rattle.core_model.specs.Headline.{is_without_entry, has_record, is_recorded}
pub use Rattle.init_words.specs.Orders.{same_ask, answers, is_hit, is_miss}
pub use Rattle.trace_laws.proofs.Dues.{MayLook, MayStop, due_facts, MaySettle, MayRun, is_signal}
pub use Rattle.init_words.specs.declared.levels.Letter.{Letter}
pub use Rattle.init_words.specs.declared.levels.Level.{Level}
pub use Rattle.init_words.specs.declared.orders.PowerKind.{PowerKind}
pub use Rattle.init_words.specs.Actions.{is_limited, starts_by, served_by, wanted_by, stays_called, lives_by, same_act}
pub use Rattle.trace_events.specs.Wishes.{in_run, goal_of, wants_reexec, wants_reread, level_wish, powers, letters}
pub use Rattle.trace_events.specs.Wishes.{are_calls_pending, is_request_pending, was_booted, is_level}
pub use Rattle.trace_events.specs.Wishes.{last_requested_level, other_than}
pub use Rattle.child_table.specs.declared.children.Stop.TheVariants.{Due, Termed, Killed}
pub use Rattle.trace_events.specs.declared.call_sets.CallSet.{CallSet}
pub use Rattle.init_words.specs.Entries.{waited_of, starts_of, lives_of}
pub use Rattle.trace_events.specs.Wanted.{is_wanted, same_acts, adds_or_changes, is_asked, is_order, is_owed, may_live}
pub use Rattle.trace_events.specs.Wanted.{entries_before, starts_now, starts_in, is_called, has_no_running_child}
pub use Rattle.trace_events.specs.Wanted.{is_owed_before}
pub use Rattle.child_table.proofs.Found.{is_listed, others, rest_distinct, unchanged}
pub use Rattle.std.specs.List.Sorted.{IsNonDecreasing}
pub use Rattle.respawn_limit.specs.declared.TheConstants.{HOLD, CLOCK_LIMIT, STARTS}
pub use Rattle.init_words.specs.declared.actions.Act.{Act}
pub use Rattle.init_words.specs.declared.levels.Mark.{Mark}
pub use Rattle.init_words.specs.declared.levels.Mark.TheVariants.{At}
pub use Rattle.init_words.specs.Levels.{names, same_level}
pub use Rattle.trace_events.specs.Timing.{hold_times, start_times}
pub use Rattle.trace_laws.specs.Stretches.{is_steady, is_reaping_of}
pub use Rattle.trace_laws.proofs.Settling.{settle_settled, settle_belongs}
pub use Rattle.core_model.specs.Happened.{MayLive, AllMayLive, leaves_entry_unchanged, is_told_of, WasStarted, WasEnded}
pub use Rattle.core_model.specs.Happened.{starts_at_entry, IsEntryDone, AllEarlierDone, HasChild, WasHeld, IsServed}
pub use Rattle.core_model.specs.Happened.{IsReached}
pub use Rattle.init_words.specs.declared.orders.Answer.{Answer}
pub use Rattle.initctl_frame.specs.declared.requests.HeardRequest.{HeardRequest}
pub use Rattle.trace_events.specs.Answered.{answered_of, child_after}
pub use Rattle.core_model.specs.Steps.{after_round, after_clock, after_got, after_adopt, after_not_read, after_handed}
pub use Rattle.core_model.specs.Steps.{after_handed_on, is_boot, wished, fields_after_level, fields_after_request}
pub use Rattle.core_model.specs.Steps.{is_named, called_if}
pub use Rattle.core_model.specs.Steps.{with_called, judged_in, after_step}
pub use Rattle.child_table.specs.Times.{is_timely, are_timely}
pub use Rattle.std.proofs.lemmas.Grind.{reverse_onto}
pub use Rattle.respawn_limit.proofs.WindowLemmas.{drop_last_push, is_full-last_starts, IsNonDecreasing-push}
pub use Rattle.trace_laws.proofs.Known.{quiet_start, has_known, wanted_known, owed_known, can_start_known}
pub use Rattle.trace_laws.proofs.Known.{excluded_known, known_single}
pub use Rattle.trace_laws.proofs.Records.{open_in_records, child_in_records, ids_listed, start_in_table}
pub use Rattle.respawn_limit.specs.State.{LimiterState, unused}
pub use Rattle.child_table.specs.declared.children.KnownChild.{KnownChild}
pub use Rattle.trace_laws.proofs.Agreement.{agrees_at}
pub use Rattle.init_words.specs.declared.children.Status.{Status}
pub use Rattle.child_table.proofs.Changed.{id-after_order, id-after_judge, timely_judge, timely_enter}
pub use Rattle.child_table.proofs.Changed.{order-after_judge, id-after_answer}
pub use Rattle.child_table.proofs.Ordered.{kept_by_one, order_changed, act-after_order, order_map, order_adopt}
pub use Rattle.child_table.proofs.Ordered.{order_new, act-after_judge, over_none, order_told}
pub use Rattle.child_table.proofs.Timely.{timely_changed, timely_order, timely_parts, timely_map, timely_later}
pub use Rattle.child_table.proofs.Timely.{timely_told}
pub use Rattle.std.proofs.lemmas.List.Folds.{list_all-append, list_any-append}
pub use Rattle.std.proofs.lemmas.List.Sums.{count_by-le-length, length-filter}
pub use Rattle.child_table.specs.Adopting.{adopted, left_over, is_left_over, entry_records, left_records}
pub use Rattle.child_table.specs.Judging.{after_judge, judged, judged_child}
pub use Rattle.std.proofs.lemmas.List.{map-append}
