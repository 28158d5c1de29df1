-- Names that all proofs of this crate import.
pub use Rattle.std.proofs.Common.{arith, ◌≡◌, ◌≤◌, ◌⊎◌, inl, inr, refl, sym, ◌∙◌, ap, ℕ, Bool, true, false, ◌&&◌, not}
pub use Rattle.std.proofs.Common.{cond, List, [], ◌∷◌, ◌++◌, length, Option, Some, None, ◌+◌, nat_le, codes, filter}
pub use Rattle.std.proofs.Common.{◌<◌, ◌-◌, subst, zero, suc, ◌==◌, ◌||◌, map, filter_map, find, option_and_then}
pub use Rattle.std.proofs.Common.{is_none, length-append, nat_lt, max, min}
pub use Rattle.std.specs.List.{list_any, list_all, cons_option}
pub use Rattle.std.proofs.lemmas.Bool.{false≢true, not-true, false_from_ne_true, true_from_ne_false, or_left, or_right}
pub use Rattle.std.proofs.lemmas.Bool.{and_parts, and_from, le-leb, leb-true, eq-eqb, eqb-true, or_parts, or_from}
pub use Rattle.std.proofs.lemmas.Bool.{and_right}
pub use Rattle.std.proofs.lemmas.Option.{none-some, same_Some}
pub use Rattle.init_words.specs.declared.levels.Level.{Level}
pub use Rattle.init_words.specs.declared.levels.Level.TheVariants.{S}
pub use Rattle.init_words.specs.declared.stages.Stage.{Stage}
pub use Rattle.init_words.specs.declared.stages.Stage.TheVariants.{Sysinit, Boot, Run}
pub use Rattle.init_words.specs.Levels.{same_level, names}
pub use Rattle.init_words.proofs.Same.{same_level-is, same_level-self, same_id-self, same_id-is, same_id-sym}
pub use Rattle.init_words.proofs.Same.{same_id-flip, same_id-from, same_stage-self}
pub use Rattle.init_words.proofs.Tests.{both_ways, falsely, not_from, all_less, all_fail, any_filter, Passing, passing}
pub use Rattle.init_words.proofs.Tests.{or_false, same_tests, any_less, any_filtered, filter_both, or_either, and_false}
pub use Rattle.init_words.proofs.Tests.{filter_none, find_none}
pub use Rattle.trace_events.specs.declared.happenings.Happening.TheVariants.{Enter, Got, NewTable, Asked, Death, Reaped}
pub use Rattle.trace_events.specs.declared.happenings.Happening.TheVariants.{Still, Hit, Miss, Told, Clock, Nudge}
pub use Rattle.trace_events.specs.declared.happenings.Happening.TheVariants.{NotRead, Birth, NoBirth, NoLook}
pub use Rattle.trace_events.specs.declared.steps.Step.{Step}
pub use Rattle.trace_events.specs.declared.steps.Goal.{Goal}
pub use Rattle.trace_events.specs.Event.{Event}
pub use Rattle.trace_events.specs.Past.{stage_of, is_idle, is_quiet, time_of, grace_of, kept_children, Child}
pub use Rattle.trace_events.specs.Past.{is_child_of}
pub use Rattle.trace_events.specs.Past.{table_of, has_child, known_children, open_of, is_child, undone_of, is_untold}
pub use Rattle.trace_events.specs.Past.{unreaped_children, Open, has_number, open_orders, is_dead, is_living, newborn}
pub use Rattle.trace_events.specs.Wishes.{goal_of, last_requested_level, level_wish, other_than, in_run, was_booted}
pub use Rattle.trace_events.specs.Wishes.{powers}
pub use Rattle.trace_events.specs.Wishes.{letters, wants_reexec, wants_reread, are_calls_pending, is_request_pending}
pub use Rattle.trace_events.specs.Wishes.{is_power_pending}
pub use Rattle.trace_events.specs.Wishes.{is_letter_pending, is_level}
pub use Rattle.trace_events.specs.Due.{is_due, same_step, due_first, enter_level, is_over, next_stage, power_steps}
pub use Rattle.trace_events.specs.Due.{letter_steps, due, is_announced, record_ids, step_if, steps_if, none_excluded}
pub use Rattle.trace_events.specs.Due.{due_reexec, due_reread, due_level, due_news, stop_step, stops_of, stops_among}
pub use Rattle.trace_events.specs.Due.{due_stops, can_start, start_steps, starts_among, due_starts, due_stage}
pub use Rattle.trace_events.specs.Due.{settle_step, due_settle, is_settled, can_look, looks_among, due_looks, first}
pub use Rattle.trace_events.specs.Due.{removed_ids, wants_look, is_served}
pub use Rattle.trace_events.specs.Sound.{is_sound, may_come}
pub use Rattle.trace_laws.proofs.Dues.{each_append, each_steps_if, each_step_if, due_facts, MayStop, MayStart, MayHold}
pub use Rattle.trace_laws.proofs.Dues.{MayRun, MaySettle}
pub use Rattle.trace_laws.proofs.Births.{step_at, at_moment, sound_step, one_child, is_table}
pub use Rattle.core_waiting.specs.Arrival.{AreRoundsWithoutRequests, undisturbed_among, makes_kills_due}
pub use Rattle.core_waiting.specs.Arrival.{has_kill_to_come}
pub use Rattle.core_waiting.specs.Arrival.{destination}
pub use Rattle.core_waiting.specs.Arrival.{rounds_to_come, has_to_end, is_found_ended, is_nudge, has_no_request}
pub use Rattle.core_waiting.specs.Arrival.{waits_to_come, signals_to_come, is_undisturbed, greatest, stages_ahead}
pub use Rattle.core_waiting.specs.Arrival.{is_ahead, waits_ahead, is_end_seen, is_vain_look}
pub use Rattle.core_waiting.specs.Rest.{AtRest, after_rounds, is_level_announced, is_awaited, awaited_children}
pub use Rattle.core_waiting.specs.Rest.{is_empty, is_calm, is_gone, count_wanted_waits, why_of_entry, why_awaited}
pub use Rattle.core_waiting.specs.Rest.{is_start_of}
pub use Rattle.core_waiting.specs.Rest.{is_waited_start, is_looked_at, is_stopping, is_waited_id, are_in_force}
pub use Rattle.core_waiting.specs.Rest.{is_wanted_wait, is_on_power, answers_power}
pub use Rattle.core_waiting.specs.Requests.{is_elsewhere, is_no_level_asked, is_stage_entered}
pub use Rattle.init_words.specs.declared.entries.Entry.{Entry}
pub use Rattle.init_words.specs.declared.levels.Mark.TheVariants.{At, OnCall}
pub use Rattle.init_words.specs.declared.orders.OrderKind.TheVariants.{Start, Look, Term, Kill}
pub use Rattle.init_words.specs.declared.children.Status.TheVariants.{Exit}
pub use Rattle.trace_events.specs.Spells.{is_missed, spell_hits, stop_due, Signal, stop_by, has_untold_miss, in_spell}
pub use Rattle.trace_events.specs.Spells.{tells_miss, told_at, untold_hits, is_birth_of, tells_hits, is_grace_over}
pub use Rattle.init_words.specs.declared.actions.Act.{Act}
pub use Rattle.init_words.specs.declared.levels.Mark.{Mark}
pub use Rattle.init_words.specs.Actions.{starts_by, waited_by, wanted_by, is_limited, stays_called, served_by}
pub use Rattle.init_words.specs.Entries.{starts_of, waited_of}
pub use Rattle.trace_events.specs.Wanted.{starts_in, has_no_running_child, is_asked, is_called, is_excluded, is_wanted}
pub use Rattle.trace_events.specs.Wanted.{is_owed}
pub use Rattle.trace_events.specs.Wanted.{may_live, is_order, starts_now}
pub use Rattle.std.specs.Option.{option_map, option_map_or}
pub use Rattle.init_words.specs.Ids.{same_id}
pub use Rattle.inittab_text.specs.Tables.{entry_of, ids_of, has_id, act_of, is_distinct}
pub use Rattle.trace_laws.proofs.Known.{quiet_known, quiet_start, has_known, known_single, excluded_known}
pub use Rattle.trace_laws.proofs.Records.{child_in_records, order_known}
pub use Rattle.core_model.specs.State.{CoreState}
pub use Rattle.core_model.specs.Decide.{is_wanted_record, decide}
pub use Rattle.core_model.specs.Fit.{LastStatuses, Fits, child_known, living, stop_after, stop_of, stop_known}
pub use Rattle.core_model.specs.Fit.{record_of, FitsExtendedTrace, records_of, with_step}
pub use Rattle.core_model.proofs.Fitted.{fit_records, fit_table, fit_stage, still}
pub use Rattle.core_model.proofs.Reading.{any_found, IsOwn, table_own}
pub use Rattle.core_waiting.specs.declared.rests.WhyAwaited.TheVariants.{Excluded, WaitedFor, InTheWay}
pub use Rattle.core_waiting.specs.Awaiting.{with_why, in_record_order, awaited_known, is_wanted_in, why_by_entry}
pub use Rattle.core_waiting.specs.Awaiting.{why_of_record, awaited_of_record, awaited_by}
pub use Rattle.trace_laws.proofs.Stopping.{found_own, left_apart, hits_are, hits_shape, found_holds}
pub use Rattle.init_words.specs.declared.levels.Letter.{Letter}
pub use Rattle.init_words.specs.declared.orders.OrderKind.{OrderKind}
pub use Rattle.init_words.specs.declared.orders.PowerKind.{PowerKind}
pub use Rattle.trace_events.specs.Timing.{is_held, is_full, hold_times}
pub use Rattle.trace_events.specs.Run.{is_rest}
pub use Rattle.core_model.proofs.Deciding.{decide_due}
pub use Rattle.init_words.specs.Orders.{same_ask}
pub use Rattle.trace_laws.proofs.Tests.{is_order-is}
pub use Rattle.trace_laws.proofs.Orders.{idle_none, undone_is_open, told_same, told_other, reaped_other, told_known}
pub use Rattle.trace_laws.proofs.Orders.{kept_before_told, known_kept, same_has, told_any, same_of, cleared}
pub use Rattle.trace_laws.proofs.Keeps.{sound_holds, look_undone, asked_free, free_told, start_undone, born_ready}
pub use Rattle.trace_laws.proofs.Keeps.{placed_spared, entry_listed, sound_ind, start_stays}
pub use Rattle.respawn_limit.specs.declared.TheConstants.{CLOCK_LIMIT, HOLD}
pub use Rattle.trace_laws.proofs.Settling.{same_any}
pub use Rattle.core_waiting.specs.declared.rests.WhyAwaited.{WhyAwaited}
pub use Rattle.trace_events.specs.declared.steps.Step.TheVariants.{Reread, Order, Reexec, Idle}
pub use Rattle.core_waiting.specs.Lines.{answers_text, ends_text}
