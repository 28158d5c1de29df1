-- Names from other crates that the definitions and clauses of this crate use.
pub use Rattle.init_words.specs.declared.stages.Stage.{Stage}
pub use Rattle.child_table.specs.State.{SlotState}
pub use Rattle.core_model.specs.Decide.{is_wanted_record, is_owed_record, decide, is_drained, level_step, signal_step}
pub use Rattle.core_model.specs.Decide.{stop_step, limited_step, can_start_record, start_step, is_done_record}
pub use Rattle.core_model.specs.Decide.{next_stage, is_served_record, can_look_record, has_excluded, first_step}
pub use Rattle.core_model.specs.Decide.{or_idle, wish_step, stands, stop_among, calm_step, work_step, start_along}
pub use Rattle.core_model.specs.Decide.{start_among, all_done, all_served, look_among, is_busy_record}
pub use Rattle.child_table.specs.Lists.{has_record_of, with_changed, is_quiet, order_in, refusal_of, record_by_id}
pub use Rattle.child_table.specs.Lists.{are_distinct, can_ask}
pub use Rattle.child_table.specs.Order.{IsInOrder}
pub use Rattle.core_model.specs.Steps.{is_named, with_called, judged_in, after_adopt, after_step, after_answer_to}
pub use Rattle.core_model.specs.Steps.{after_round, after_clock, after_got, after_not_read, after_handed}
pub use Rattle.core_model.specs.Steps.{after_handed_on}
pub use Rattle.core_model.specs.State.{CoreState, opening_goal, opening_state}
pub use Rattle.core_model.specs.Rules.{IsFit, has_cause, may_follow, is_order_allowed, is_started, is_start_allowed}
pub use Rattle.core_model.specs.Rules.{are_starts_in, is_child_excluded, is_stop_judged, is_callable, may_be_signalled}
pub use Rattle.core_model.specs.Rules.{are_marks_consistent, is_hold_of, is_limiter_consistent, is_level_wish_valid}
pub use Rattle.core_model.specs.Rules.{is_goal_reached}
pub use Rattle.core_model.specs.Rules.{is_birth_known, do_fields_obey, does_record_obey, do_records_obey, is_kept}
pub use Rattle.trace_events.specs.declared.happenings.Happening.TheVariants.{NewTable}
pub use Rattle.core_model.specs.Fit.{Fits, HasLastStatuses, FitsExtendedTrace, ForAllFittedTraces, with_step}
pub use Rattle.trace_events.specs.declared.happenings.Handed.{Handed}
pub use Rattle.trace_events.specs.Answered.{answered_of}
pub use Rattle.trace_events.specs.Due.{due, first}
pub use Rattle.trace_events.specs.Run.{is_rest}
pub use Rattle.core_model.specs.Work.{work_left}
pub use Rattle.respawn_limit.specs.declared.TheConstants.{CLOCK_LIMIT}
pub use Rattle.child_table.specs.Times.{is_stop_timely, is_timely, are_timely}
