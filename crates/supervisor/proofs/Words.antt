-- Names that the proofs of this crate use.
pub use Rattle.std.proofs.Common.{◌≡◌, refl, sym, ap, ◌∙◌, subst, ℕ, zero, suc, ◌+◌, ◌-◌, ◌<◌, ◌≤◌, inl, inr, Bool}
pub use Rattle.std.proofs.Common.{true, false, ◌&&◌, nat_lt, List, [], ◌∷◌, ◌++◌, length, take, arith, length-append}
pub use Rattle.std.proofs.Common.{codes, None, Some, Ok, Option, Result, Err, OnOk, OnErr, is_ok, ◌==◌, ◌||◌, not, drop}
pub use Rattle.std.proofs.Common.{append-nil, cond, append_assoc, is_some, zip, ◌≢◌, min, nat_le, rules, is_err, ◌⊎◌}
pub use Rattle.std.specs.List.{list_all, starts_with, list_any}
pub use Rattle.std.proofs.lemmas.Bool.{and_from, and_parts, ltb-true, false≢true, eq-eqb, eqb-true, le-leb, or_right}
pub use Rattle.std.proofs.lemmas.List.Folds.{list_all-append}
pub use Rattle.trace_events.specs.declared.steps.Goal.{Goal}
pub use Rattle.trace_events.specs.Event.{Event}
pub use Rattle.trace_events.specs.Sound.{is_sound}
pub use Rattle.core_model.specs.State.{CoreState, opening_goal, opening_state}
pub use Rattle.core_waiting.specs.Arrival.{AreRoundsWithoutRequests, undisturbed_among, has_no_request, is_undisturbed}
pub use Rattle.core_waiting.specs.Arrival.{rounds_to_come}
pub use Rattle.core_waiting.specs.Rest.{AtRest, after_rounds, is_level_announced}
pub use Rattle.host_calls.specs.declared.calls.Call.TheVariants.{Clock, Pause, Start, Look, Late, TakeBytes, Announce}
pub use Rattle.host_calls.specs.declared.calls.Call.TheVariants.{Carry, Signal, ReadTables}
pub use Rattle.host_calls.specs.Calls.{HostCall, TextRead, front_read, parts_read, PartsRead}
pub use Rattle.supervisor.specs.declared.TheConstants.{STEP_LIMIT, BYTE_LIMIT, PIECE, LATE_LIMIT}
pub use Rattle.supervisor.specs.CallsLead.{are_carried, are_seconds_short, is_allowed, TookFirstDueStep, gone_on, Hears}
pub use Rattle.supervisor.specs.CallsLead.{KeepsSecondsAndGeneration, CallsLead}
pub use Rattle.supervisor.specs.CallsLead.{Logs, Tracks, IfPossibleFrom, Went, comes_back, Counted, HasReadBytes, Took}
pub use Rattle.supervisor.specs.CallsLead.{past_of}
pub use Rattle.supervisor.specs.CallsLead.{AreTexts}
pub use Rattle.supervisor.specs.CallsLead.{CallsWereInPlace}
pub use Rattle.supervisor.specs.Point.{Point, point_after, has_trace, last_birth, acted, answered, announced}
pub use Rattle.supervisor.specs.Point.{is_announcement, bytes_after, came_cut, carrying, is_of_generation, is_outcome}
pub use Rattle.supervisor.specs.Point.{same_text, is_last, clocked, come, ordered, order_for, after, byte_after}
pub use Rattle.supervisor.specs.Point.{came_whole, handed_if, is_asked_for, nudged_if, reading}
pub use Rattle.supervisor.specs.Turns.{AreSteps, AreTurns, IsTurn, are_full, are_late_answers, are_byte_readings}
pub use Rattle.supervisor.specs.Turns.{has_come, is_reread}
pub use Rattle.supervisor.specs.Turns.{is_step, may_take, MadeTurns, Turned, bytes_in, bytes_taken, is_room, is_busy}
pub use Rattle.supervisor.specs.Turns.{takes_no_bytes}
pub use Rattle.supervisor.proofs.Leading.{calls_allowed, carried_parts, IfPossibleFrom-then, CallsLead-heard}
pub use Rattle.supervisor.proofs.Leading.{CallsLead-map}
pub use Rattle.supervisor.proofs.Leading.{CallsLead-weaken}
pub use Rattle.supervisor.proofs.Leading.{CallsLead-none, CallsLead-then, CallsLead-beside, CallsLead-frame}
pub use Rattle.supervisor.proofs.Leading.{CallsLead-still, bytes_counted}
pub use Rattle.supervisor.proofs.Leading.{Hears-none}
pub use Rattle.supervisor.proofs.Point.{point_after-append}
pub use Rattle.supervisor.specs.Arriving.{SettlesWithin, IsSettled, are_unasked_rounds, undisturbed_rounds, turns_in}
pub use Rattle.supervisor.specs.Arriving.{without_rounds, is_answered_turn, past_after, round_of, calls_to_pause}
pub use Rattle.supervisor.specs.Arriving.{without_turn, without_turns, SettlesUpToEachTurn, AreObservedTurns}
pub use Rattle.init_words.specs.declared.entries.Entry.{Entry}
pub use Rattle.init_words.specs.declared.orders.Answer.TheVariants.{Alive, Born, Ended}
pub use Rattle.trace_events.specs.declared.happenings.Happening.TheVariants.{Enter, Settle, NewTable, Told, Death}
pub use Rattle.trace_events.specs.declared.happenings.Happening.TheVariants.{Reaped, Asked}
pub use Rattle.supervisor.specs.Opening.{start_point, IsOpening, IsStartOver, StartState, MadeTurnsFromStart}
pub use Rattle.std.specs.Option.{option_and_then, option_to_list, option_map_or}
pub use Rattle.init_words.specs.declared.orders.Answer.{Answer}
pub use Rattle.initctl_frame.specs.Blocks.{PartialBlock, ReaderAfter, requests_in_blocks}
pub use Rattle.trace_events.specs.declared.steps.Step.{Step}
pub use Rattle.child_table.specs.State.{child_number, SlotState}
pub use Rattle.child_table.specs.Lists.{order_in, refusal_of, record_by_id, is_quiet}
pub use Rattle.core_model.specs.Steps.{after_answer_to, after_step, after_handed_on, after_adopt, after_clock}
pub use Rattle.core_model.specs.Steps.{after_got}
pub use Rattle.core_model.specs.Steps.{after_handed, after_not_read, after_round}
pub use Rattle.core_model.specs.Fit.{Fits, FitsWithLastStatuses, FitsExtendedTrace, ForAllFittedTraces, with_step}
pub use Rattle.core_model.proofs.Recorded.{unreaped_recorded}
pub use Rattle.trace_log.specs.Logs.{LogState}
pub use Rattle.supervisor.proofs.Taking.{Logs-none, Took-none, Logs-handed, Logs-same, Logs-then}
pub use Rattle.supervisor.proofs.Acting.{Hears-answer, Hears-step, Hears-tracks, tracks, Hears-told}
pub use Rattle.supervisor.specs.Parts.{FitsAndRestsIf, IsReread, IsStep, IsStepUnlessIdle, HoldsAfterTurn}
pub use Rattle.supervisor.specs.Parts.{MadeCallsLead}
pub use Rattle.supervisor.specs.Parts.{MadeCallsLeadFrom, AnnouncesStep}
pub use Rattle.supervisor.specs.Parts.{is_end, is_short_step, HandOverYields, AnnouncesRefusal, is_listed}
pub use Rattle.supervisor.specs.Parts.{TracksAtBlockStart, HoldsAfterTurns, AreAllSteps}
pub use Rattle.supervisor.specs.Parts.{IsLateCall, IsBytesCall, IsReading}
pub use Rattle.initctl_frame.specs.declared.requests.HeardRequest.{HeardRequest}
pub use Rattle.trace_events.specs.Range.{is_request}
pub use Rattle.core_model.specs.Decide.{decide, or_else, or_idle, level_step, news_step, wished_step, wish_step, stands}
pub use Rattle.core_model.specs.Decide.{stop_among, has_excluded, limited_step, can_start_record, start_step}
pub use Rattle.core_model.specs.Decide.{is_owed_record, start_along, is_over_among, next_stage, enter_step, stage_step}
pub use Rattle.core_model.specs.Decide.{settle_step, can_look_record, look_among, calm_step, work_step, first_step}
pub use Rattle.core_model.specs.Decide.{decide_in, is_drained}
pub use Rattle.core_model.specs.Parts.{state_of, SavedState}
pub use Rattle.core_text.specs.Range.{are_fields, has_short_seconds, is_goal, is_stage, passes}
pub use Rattle.core_text.specs.Refused.{IsTextOf, IsCut, IsOther, IsTextIn}
pub use Rattle.supervisor.specs.Grows.{ExtendsLogFromCore, ExtendsLogFromReader, HasReadSomeBytes, Grows}
pub use Rattle.supervisor.proofs.Growing.{ExtendsLogFromCore-then, Grows-none, ExtendsLogFromCore-one}
pub use Rattle.supervisor.proofs.Growing.{ExtendsLogFromCore-none, Grows-handed, Grows-then}
pub use Rattle.supervisor.proofs.Growing.{ExtendsLogFromReader-none, ExtendsLogFromReader-then, ExtendsLogFromCore-call}
pub use Rattle.supervisor.proofs.Bytes.{piece_fed, CallsLead-no_bytes, CallsLead-pieces, CallsLead-fed}
pub use Rattle.std.proofs.lemmas.Option.{same_Some, none-some}
pub use Rattle.init_words.proofs.Same.{same_id-self}
pub use Rattle.core_model.specs.Rules.{IsFit}
pub use Rattle.core_text.specs.declared.versions.Version.TheVariants.{V2}
pub use Rattle.core_text.proofs.Prefixes.{generation_said}
pub use Rattle.supervisor.proofs.Calling.{HandedOn, CallsLead-carried, CallsLead-clock, Hears-last, Hears-more}
pub use Rattle.supervisor.proofs.Calling.{CallsLead-late}
pub use Rattle.supervisor.proofs.Calling.{Hears-order, first_is, CallsLead-start, CallsLead-not_handed}
pub use Rattle.supervisor.proofs.Calling.{CallsLead-not_read}
pub use Rattle.supervisor.proofs.Calling.{CallsLead-used}
pub use Rattle.inittab_text.specs.Tables.{entry_of, is_distinct}
pub use Rattle.supervisor.specs.Edges.{AddsStamped, EdgeState, Kept, KeptAt, Made, calls_of, trace_at}
pub use Rattle.supervisor.specs.Fronts.{Fronts, reports_outcome_of, AtEachCall}
pub use Rattle.host_calls.proofs.Record.{NewCallsSatisfy-map, NewCallsSatisfy-none, NewCallsSatisfy-then}
pub use Rattle.supervisor.proofs.Fronts.{fronts_none, fronts_one, fronts_then, fronts_two}
pub use Rattle.supervisor.proofs.Keeping.{AddsStamped-same, Kept-then, NewCallsSatisfy-made, calls_of-append}
pub use Rattle.supervisor.proofs.Keeping.{fronts_from}
pub use Rattle.supervisor.proofs.Keeping.{kept_asked, kept_from, kept_led, kept_still, leads_from}
pub use Rattle.supervisor.specs.Requests.{Brings, requested}
pub use Rattle.reexec_state.specs.Taken.{NotTaken}
pub use Rattle.trace_events.specs.Agreement.{is_unreaped}
pub use Rattle.trace_events.specs.Past.{open_of, Child, is_child, newborn, unreaped_children}
pub use Rattle.trace_laws.proofs.Laws.{lawful_unbroken, sound_lawful}
pub use Rattle.host_calls.specs.declared.calls.Reply.TheVariants.{Now, Later}
pub use Rattle.supervisor.specs.Crashes.{LeftByCrash, LeftByCrashInFile, is_of_idle_look, IsOpenOrderOfCall, subject_of}

-- `MadeCallsLeadFrom` with the whole trace: the effect of parts of a turn between two records of calls and two logs
abbrev pub MakesOver : {L : Type 0} → (L → LogState) → Option (List (Made L)) → Option (List (Made L)) → LogState
    → LogState → (List HostCall → Type 0) → (Goal → Point → Type 0) → (Goal → Point → Type 0) → Type 0
MakesOver = MadeCallsLeadFrom past_of
