-- Names that all proofs of this crate import.
pub use Rattle.std.proofs.Common.{arith, ◌≡◌, refl, sym, ◌∙◌, ap, subst, ℕ, Bool, true, false, ◌||◌, cond, List, ◌∷◌}
pub use Rattle.std.proofs.Common.{Option, Some, Result, Ok, Err, ◌+◌, ◌*◌, ◌/◌, ◌<◌, ◌==◌, [], ◌++◌, length, take, drop}
pub use Rattle.std.proofs.Common.{append-nil, append_assoc, length-append, length-drop, ◌&&◌, None, is_some, filter}
pub use Rattle.std.proofs.Common.{◌⊎◌, inl, inr, reverse, ap₂, not, map, eq-eqb, nat_lt, suc, codes, ℤ, ◌≤◌}
pub use Rattle.std.specs.Option.{option_map_or, option_to_list, option_map}
pub use Rattle.std.specs.Result.{OnOk, OnErr, is_err}
pub use Rattle.std.proofs.lemmas.Bool.{and_from, eqb-true, eqb-false, false≢true, and_parts, or_left, or_right}
pub use Rattle.std.proofs.lemmas.Bool.{or_parts, or_from, false_from_ne_true, ltb-true}
pub use Rattle.init_words.specs.declared.entries.Entry.{Entry}
pub use Rattle.init_words.specs.declared.orders.Answer.{Answer}
pub use Rattle.init_words.specs.declared.orders.OrderKind.{OrderKind}
pub use Rattle.init_words.specs.Orders.{answers, same_ask}
pub use Rattle.init_words.proofs.Same.{same_id-self, same_id-is, same_id-sym}
pub use Rattle.inittab_text.specs.Tables.{is_distinct, entry_of}
pub use Rattle.trace_events.specs.declared.steps.Goal.{Goal}
pub use Rattle.trace_events.specs.declared.steps.Step.{Step}
pub use Rattle.trace_events.specs.Event.{Event}
pub use Rattle.trace_events.specs.Past.{open_of, is_quiet, Child, is_child_of, is_child, is_dead, has_child, undone_of}
pub use Rattle.trace_events.specs.Past.{unreaped_children, known_children, has_number, is_living, is_untold}
pub use Rattle.trace_events.specs.Due.{due, first, same_step, record_ids}
pub use Rattle.trace_events.specs.Sound.{is_sound, may_come}
pub use Rattle.trace_laws.proofs.Records.{open_in_records, child_in_records}
pub use Rattle.trace_laws.proofs.Runs.{first_due, same_step-self}
pub use Rattle.core_model.specs.State.{CoreState}
pub use Rattle.core_model.specs.Fit.{Fits, FitsWithLastStatuses, FitsExtendedTrace, ForAllFittedTraces, with_step}
pub use Rattle.core_model.specs.Fit.{is_act, child_known, living}
pub use Rattle.core_model.specs.Fit.{record_of}
pub use Rattle.core_model.proofs.Acts.{found_record, no_record, child_some}
pub use Rattle.core_model.proofs.Fitted.{fit_records, all_on, fit_table}
pub use Rattle.core_model.proofs.Reading.{quiet_same, any_found}
pub use Rattle.trace_log.specs.Logs.{LogState, AcceptsHappening, Stays}
pub use Rattle.supervisor.specs.Point.{Point, last_birth, acted, is_asked_for, answered, byte_after, bytes_after}
pub use Rattle.supervisor.specs.Point.{replied, ordered, come, is_last, nudged_if, clocked, reading, before_reading}
pub use Rattle.supervisor.specs.Point.{before_handing, is_command, is_first, is_outcome, carrying, point_after}
pub use Rattle.supervisor.specs.Point.{has_trace, order_for, came_whole, handed_if, announced, after, is_in_place}
pub use Rattle.supervisor.specs.Point.{was_reading, came_cut, may_announce, are_in_place, tells_outcomes}
pub use Rattle.supervisor.specs.Point.{is_announcement, is_of_generation, same_text}
pub use Rattle.supervisor.specs.CallsLead.{is_own, is_allowed, gone_on, Logs, TookFirstDueStep, Hears}
pub use Rattle.supervisor.specs.CallsLead.{KeepsSecondsAndGeneration, Tracks, Took, HasReadBytes}
pub use Rattle.supervisor.specs.CallsLead.{IfPossibleFrom, Went, CallsWereInPlace, CallsLead, past_of, Heard, AreTexts}
pub use Rattle.supervisor.specs.CallsLead.{IsStateText, comes_back}
pub use Rattle.supervisor.specs.CallsLead.{are_carried, Counted, Takes, may_happen, are_seconds_short}
pub use Rattle.std.specs.List.{list_all, list_any, AllByRecursion, starts_with}
pub use Rattle.trace_events.specs.Range.{is_request, is_in_range, is_short, are_short, is_seconds}
pub use Rattle.std.proofs.lemmas.List.{append_cancel_left, reverse-append}
pub use Rattle.initctl_frame.specs.declared.requests.HeardRequest.{HeardRequest}
pub use Rattle.initctl_frame.specs.Frames.{heard_of, block_of_ints, heard_of_ints, heard_of_runlevel, int_at}
pub use Rattle.initctl_frame.specs.Frames.{seconds_of}
pub use Rattle.initctl_frame.specs.Blocks.{PartialBlock, ReaderAfter, requests_in_blocks, remainder_of, blocks_of}
pub use Rattle.host_calls.specs.declared.calls.Call.TheVariants.{TakeBytes, Start, Late, Clock, ReadTables, Announce}
pub use Rattle.host_calls.specs.declared.calls.Call.TheVariants.{Signal, Carry, Pause}
pub use Rattle.supervisor.specs.Requests.{requested, Continues, requests_in, bytes_of, Brings}
pub use Rattle.init_words.specs.Parts.{NamedText, texts_of}
pub use Rattle.inittab_text.specs.Parts.{are_readable, table_of_texts}
pub use Rattle.core_model.specs.Parts.{state_of, SavedState}
pub use Rattle.core_text.specs.declared.versions.Version.TheVariants.{V2}
pub use Rattle.host_calls.specs.declared.calls.Reply.{Reply}
pub use Rattle.host_calls.specs.Calls.{PartsRead, TextRead, HostCall}
pub use Rattle.init_words.specs.declared.children.Status.{Status}
pub use Rattle.trace_events.specs.Wanted.{is_order}
pub use Rattle.supervisor.specs.Grows.{Grows, ExtendsLogFromCore, ExtendsLogFromReader}
pub use Rattle.trace_log.specs.declared.faults.LogFault.{LogFault}
pub use Rattle.std.proofs.lemmas.List.Folds.{list_any-append, list_all-append}
pub use Rattle.init_words.proofs.Tests.{both_ways, and_false, not_from, all_filter, any_filtered, passing, or_either}
pub use Rattle.host_calls.specs.declared.calls.Reply.TheVariants.{Now, Later}
pub use Rattle.supervisor.specs.Turns.{takes_no_bytes, AreSteps, IsTurn, is_reread, is_step}
