-- Names that the proofs of this crate share.
pub use Rattle.std.proofs.Common.{◌≡◌, ◌≢◌, ◌==◌, ◌-◌, nat_lt, suc, zero, refl, sym, ◌∙◌, ap, ℕ, ◌+◌, ◌<◌, arith, Bool}
pub use Rattle.std.proofs.Common.{true, false, ◌&&◌, ◌||◌, cond, List, [], ◌∷◌, ◌++◌, length, take, slice_get, Some}
pub use Rattle.std.proofs.Common.{None, is_some, ◌≤◌, nat_le, Option, is_none, not, subst, map, Result, Ok, Err, OnOk}
pub use Rattle.std.proofs.Common.{OnErr, drop, get_or, zip, add-one, append_assoc, rules}
pub use Rattle.std.specs.List.{list_any, list_all}
pub use Rattle.init_words.specs.declared.entries.Entry.{Entry}
pub use Rattle.inittab_text.specs.Tables.{has_id, is_distinct, default_level_of}
pub use Rattle.child_table.specs.State.{SlotState, new_record}
pub use Rattle.child_table.specs.Changes.{after_call, after_enter, after_order, after_hold, after_nudge}
pub use Rattle.child_table.specs.Changes.{after_answer, can_be_asked}
pub use Rattle.child_table.specs.Lists.{record_by_id, has_record_of, changed, with_changed, is_quiet, order_in}
pub use Rattle.child_table.specs.Lists.{refusal_of, is_record_of, are_distinct, can_ask_of, can_ask, order_of}
pub use Rattle.child_table.specs.Lists.{ends_record, after_answer_to}
pub use Rattle.child_table.specs.Order.{IsInOrder}
pub use Rattle.core_model.specs.Steps.{called_if, with_called, judged_in, is_named}
pub use Rattle.core_model.proofs.RuledMade.{called_id, called_act}
pub use Rattle.std.proofs.lemmas.Bool.{or_parts, eqb-true, eq-eqb, ltb-true, ltb-false, leb-true, le-leb, both_ways}
pub use Rattle.std.proofs.lemmas.Bool.{and_parts, and_from, or_left, or_right, true≢false, false≢true}
pub use Rattle.init_words.specs.declared.stages.Stage.{Stage}
pub use Rattle.child_table.specs.Stopping.{is_stop_due, is_termed, is_termed_before, IsFirstTermed}
pub use Rattle.trace_events.specs.declared.steps.Step.TheVariants.{Order, Hold}
pub use Rattle.init_words.specs.declared.orders.OrderKind.TheVariants.{Kill, Start, Look, Term}
pub use Rattle.core_model.specs.Decide.{signal_step, stop_among, has_excluded, stands, calm_step, work_step, decide}
pub use Rattle.core_model.specs.Decide.{is_wanted_record, is_owed_record, start_along, look_among, start_step}
pub use Rattle.core_model.specs.Decide.{stop_step}
pub use Rattle.core_model.specs.State.{CoreState, opening_level, opening_goal}
pub use Rattle.level_core.specs.Signals.{is_past}
pub use Rattle.child_table.proofs.Changed.{timely_judge, timely_enter, id-after_judge, id-after_order}
pub use Rattle.child_table.proofs.Ordered.{order_map, order_adopt, act-after_judge, order_told, order_changed}
pub use Rattle.child_table.proofs.Ordered.{order_new, act-after_order}
pub use Rattle.child_table.proofs.Timely.{timely_map, timely_told, timely_changed, timely_later, timely_order}
pub use Rattle.core_model.proofs.Allowed.{decide_holds, decide_allowed}
pub use Rattle.core_model.proofs.Hearing.{fits_adopt, answer_taken, fits_told, fits_round, fits_clock, fits_got}
pub use Rattle.core_model.proofs.Hearing.{fits_handed_on, fits_opening, fits_handed, fits_not_read}
pub use Rattle.init_words.specs.declared.orders.Answer.{Answer}
pub use Rattle.init_words.specs.declared.refusals.Refusal.{Refusal}
pub use Rattle.init_words.specs.declared.refusals.Refusal.TheVariants.{NotQuiet, WrongAnswer}
pub use Rattle.core_model.specs.Rules.{IsFit, is_started, is_start_allowed, are_starts_along, is_hold_of, is_limit_kept}
pub use Rattle.core_model.specs.Rules.{is_kept, is_non_decreasing}
pub use Rattle.core_model.proofs.RulesKept.{adopt_keeps, told_keeps, opening_keeps, step_keeps}
pub use Rattle.core_model.proofs.Each.{Each, each_always, each_less, each_own}
pub use Rattle.level_core.specs.Places.{is_seen_record, are_seen, is_held_back, is_passed_record, is_passed_in}
pub use Rattle.level_core.specs.Places.{is_passed_at, ArePassedFrom, ArePassed, changes_starts, no_signal_due_at}
pub use Rattle.level_core.specs.Places.{NoSignalDueBefore}
pub use Rattle.init_words.specs.Actions.{is_limited}
pub use Rattle.respawn_limit.specs.Window.{is_held}
pub use Rattle.level_core.specs.Between.{AllExcept}
pub use Rattle.level_core.specs.declared.walk_places.Places.{Places}
pub use Rattle.std.proofs.Math.Seq.{drop-nil, take-nil, drop-cons}
pub use Rattle.std.specs.Option.{option_map, option_or, unwrap_or}
pub use Rattle.core_model.specs.declared.parts.PlainSlot.{PlainSlot}
pub use Rattle.core_model.specs.Rebuilding.{record_from, records_along, is_whole, is_for, are_whole, record_read}
pub use Rattle.core_model.specs.Rebuilding.{are_paired}
pub use Rattle.std.specs.List.Sorted.{IsNonDecreasing}
pub use Rattle.respawn_limit.specs.declared.TheConstants.{STARTS, CLOCK_LIMIT}
pub use Rattle.core_model.proofs.Falls.{never_from_ordered, ordered_from_never, never_from_sorted}
pub use Rattle.core_model.proofs.RuledHeard.{round_keeps, clock_keeps, got_keeps, handed_on_keeps, handed_keeps}
pub use Rattle.core_model.proofs.RuledHeard.{not_read_keeps}
