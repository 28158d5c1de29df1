-- Names that all proofs of this crate import.
pub use Rattle.std.proofs.Common.{◌≡◌, refl, sym, ◌∙◌, ap, ℕ, ◌==◌, Bool, true, false, not, ◌&&◌, List, ◌||◌, cond}
pub use Rattle.std.proofs.Common.{Option, Some, None, find, is_none, is_some, subst, ◌+◌, ◌-◌, ◌<◌, ◌≤◌, [], ◌∷◌, ◌++◌}
pub use Rattle.std.proofs.Common.{map, length, get_or, take, drop, ◌⊎◌, inl, inr, arith, length-drop, IfOk, ◌≢◌}
pub use Rattle.std.proofs.Common.{append_assoc, IfErr, reverse, filter, Vec, rules}
pub use Rattle.std.specs.List.{list_any}
pub use Rattle.std.specs.Option.{option_map, option_map_or}
pub use Rattle.init_words.specs.declared.orders.OrderKind.TheVariants.{Start, Look, Term, Kill}
pub use Rattle.init_words.specs.Ids.{same_id}
pub use Rattle.trace_events.specs.declared.happenings.Happening.TheVariants.{Birth, NoBirth, Death, Reaped, Still}
pub use Rattle.trace_events.specs.declared.happenings.Happening.TheVariants.{NoLook, Hit, Miss, Told, NewTable, Asked}
pub use Rattle.trace_events.specs.declared.steps.Goal.{Goal}
pub use Rattle.trace_events.specs.Event.{Event}
pub use Rattle.trace_events.specs.Past.{Child, has_number, is_child, is_dead, is_living, undone_of, unreaped_children}
pub use Rattle.trace_events.specs.Past.{is_untold, is_quiet, stage_of, table_of, is_child_of, open_of, is_idle}
pub use Rattle.trace_events.specs.Past.{known_children}
pub use Rattle.trace_events.specs.Wanted.{is_order, is_owed}
pub use Rattle.trace_events.specs.Sound.{may_come, is_sound}
pub use Rattle.init_words.proofs.Same.{same_id-is, same_ask-is, same_level-is, same_id-self}
pub use Rattle.init_words.proofs.Tests.{and_three, any_same, both_ways, any_less, falsely, not_from, filter_within}
pub use Rattle.init_words.proofs.Tests.{find_none, err_is}
pub use Rattle.trace_laws.proofs.Told.{answered_untold, same_find}
pub use Rattle.simulator.specs.declared.objections.Objection.{Objection}
pub use Rattle.simulator.specs.State.{SystemState, order_in, answer_in, child_in, is_living_in, is_dead_in, died}
pub use Rattle.simulator.specs.Steps.{is_script, order_after, answer_after, child_after}
pub use Rattle.simulator.specs.Objections.{unless, objection_to}
pub use Rattle.simulator.specs.Follows.{Follows, simulated_child_of, child_with}
pub use Rattle.trace_laws.proofs.Lone.{lone_any, none_filtered, is_lone, lone_filter}
pub use Rattle.std.specs.Prelude.{nat_le, nat_lt, unwrap_or, OnErr, IfSome}
pub use Rattle.std.proofs.lemmas.Bool.{and_parts, cases_lt, leb-true, ltb-true, false≢true, and_from, not-true, or_left}
pub use Rattle.std.proofs.lemmas.List.{get_or-map, get_or_append_left, length-map, map-append, take-append-drop}
pub use Rattle.std.proofs.lemmas.List.{append-nil, append_cancel_right, reverse-reverse, nil_from_length}
pub use Rattle.core_model.specs.Parts.{SavedState, state_of}
pub use Rattle.core_model.specs.State.{CoreState}
pub use Rattle.core_model.specs.Steps.{after_handed_on, wished, fields_after_level, after_step, after_adopt}
pub use Rattle.core_model.specs.Steps.{after_clock}
pub use Rattle.core_model.specs.Steps.{after_got, after_not_read, after_round, after_answer_to}
pub use Rattle.simulator.specs.Handing.{after_hand, has_next, is_made, kept_texts, objection_handed, taken_of}
pub use Rattle.simulator.specs.Handing.{handed_over_text, are_handed, made_in, may_hand, text_at, kept_goal, kept_at}
pub use Rattle.simulator.specs.Handing.{comes_back}
pub use Rattle.simulator.specs.Texts.{AreMade, HasTexts, IsForeign, IsOfGeneration, IsTakenOver}
pub use Rattle.init_words.specs.declared.entries.Entry.{Entry}
pub use Rattle.trace_events.specs.Range.{is_in_range, are_in_range, is_request}
pub use Rattle.trace_events.specs.Answered.{answered_of}
pub use Rattle.trace_events.specs.Due.{due, first, same_step, step_if, steps_if, none_excluded, due_first, due_reexec}
pub use Rattle.trace_events.specs.Due.{due_reread, due_level, enter_level, due_news, power_steps, letter_steps}
pub use Rattle.trace_events.specs.Due.{due_stops, stops_among, stops_of, stop_step, due_starts, starts_among}
pub use Rattle.trace_events.specs.Due.{start_steps, can_start, due_stage, next_stage, is_over, due_settle, settle_step}
pub use Rattle.trace_events.specs.Due.{is_announced, is_settled, due_looks, looks_among, can_look, record_ids}
pub use Rattle.trace_text.specs.Lines.{event_text, trace_text}
pub use Rattle.trace_events.specs.Run.{is_run, is_rest, is_reread, is_next, step_in}
pub use Rattle.trace_laws.proofs.Runs.{run_sound, first_due, same_step-self, run_lawful}
pub use Rattle.core_model.specs.Fit.{FitsWithLastStatuses, is_act, last_statuses_of, core_read, with_step}
pub use Rattle.core_model.specs.Fit.{FitsExtendedTrace, ForAllFittedTraces}
pub use Rattle.core_model.proofs.Fitted.{fit_records, all_on, own_read}
pub use Rattle.simulator.specs.declared.running.SimFault.{SimFault}
pub use Rattle.simulator.specs.Moments.{CanHandOver, Moment, AtRest, IsReadyFor, SimulationGoesOn, HearsLine}
pub use Rattle.simulator.specs.Moments.{HeardBreaks}
pub use Rattle.simulator.specs.Moments.{HeardEnds, TableEnds, opening_text, ComesToRest, Breaks, FromRest, HeardOne}
pub use Rattle.simulator.specs.Moments.{SoFar, SomeRest, FromScript, FromMoment, SomeMoment}
pub use Rattle.simulator.specs.Said.{is_scripted, may_be_scripted, objection_in, objection_now, IsObjected, heard}
pub use Rattle.simulator.specs.Said.{first_table}
pub use Rattle.simulator.specs.Simulation.{past_text, RunsToRest, Scenario, goal_in, heard_text, IsTooLong, table_in}
pub use Rattle.simulator.specs.Simulation.{script_in, RunOver, Broken, Ends, Done, scenario}
pub use Rattle.init_words.specs.declared.stages.Stage.{Stage}
pub use Rattle.init_words.specs.Levels.{same_level, same_letter}
pub use Rattle.trace_events.specs.declared.steps.Step.{Step}
pub use Rattle.trace_events.specs.declared.steps.Step.TheVariants.{Enter, Call, Power, Reread, Order, Hold, Settle}
pub use Rattle.trace_events.specs.declared.steps.Step.TheVariants.{Reexec, Idle}
pub use Rattle.trace_events.specs.Wishes.{in_run, level_wish, goal_of, wants_reexec, is_power_pending}
pub use Rattle.trace_events.specs.Wishes.{is_letter_pending, powers}
pub use Rattle.trace_events.specs.Wishes.{letters, is_request_pending}
pub use Rattle.reexec_state.proofs.Generations.{request_same, step_same}
pub use Rattle.std.specs.Io.KnownBytes.{Appends, Keeps}
pub use Rattle.std.proofs.KnownBytes.{Appends-nil, Appends-trans, Keeps-refl, Appends-kept}
pub use Rattle.std.proofs.lemmas.Grind.{reverse_onto, common_steps}
pub use Rattle.simulator.specs.Faults.{Leaves}
pub use Rattle.init_words.specs.declared.levels.Letter.{Letter}
pub use Rattle.init_words.specs.declared.orders.PowerKind.{PowerKind}
pub use Rattle.trace_text.proofs.ReadTexts.{are_in_range-push, one_trace, counted_on, lines_within}
pub use Rattle.inittab_text.specs.Reading.{table_of_text}
pub use Rattle.trace_text.specs.Texts.{line_count, BeginsNone}
pub use Rattle.text_lines.specs.Lines.{newlines, ended}
