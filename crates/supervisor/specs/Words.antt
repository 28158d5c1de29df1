-- Names from other crates that the definitions and clauses of this crate use.
pub use Rattle.init_words.specs.declared.entries.Entry.{Entry}
pub use Rattle.init_words.specs.declared.levels.Level.{Level}
pub use Rattle.trace_events.specs.declared.steps.Goal.{Goal}
pub use Rattle.trace_events.specs.Event.{Event}
pub use Rattle.core_model.specs.State.{CoreState, opening_goal, opening_state}
pub use Rattle.host_calls.specs.declared.calls.Call.TheVariants.{Pause, Late, Clock, TakeBytes, Announce, Carry}
pub use Rattle.host_calls.specs.declared.calls.Call.TheVariants.{ReadTables}
pub use Rattle.host_calls.specs.Calls.{HostCall, TextRead, PartsRead}
pub use Rattle.supervisor.specs.declared.TheConstants.{STEP_LIMIT, BYTE_LIMIT, LATE_LIMIT, PIECE}
pub use Rattle.supervisor.specs.CallsLead.{are_carried, is_allowed, TracksPoint, Tracks, IfPossibleFrom, Went}
pub use Rattle.supervisor.specs.CallsLead.{comes_back, past_of, Hears}
pub use Rattle.supervisor.specs.CallsLead.{Logs, Counted, CallsLead, TookFirstDueStep, KeepsSecondsAndGeneration}
pub use Rattle.supervisor.specs.Point.{Point, point_after, is_last, is_outcome, is_announcement, may_announce}
pub use Rattle.supervisor.specs.Point.{last_birth, acted, answered, replied, come, order_for}
pub use Rattle.supervisor.specs.Turns.{MadeTurns, AreSteps, bytes_in, is_reread, is_room, is_step, are_late_answers}
pub use Rattle.supervisor.specs.Turns.{are_byte_readings}
pub use Rattle.supervisor.specs.Turns.{may_take, IsTurn}
pub use Rattle.inittab_text.specs.Tables.{is_distinct, entry_of}
pub use Rattle.trace_events.specs.declared.happenings.Happening.TheVariants.{NewTable, Handed, Told}
pub use Rattle.trace_log.specs.Logs.{LogState}
pub use Rattle.supervisor.specs.Edges.{Made, AddsStamped, EdgeState, Kept, calls_of}
pub use Rattle.init_words.specs.declared.orders.Answer.TheVariants.{Ended}
pub use Rattle.trace_events.specs.declared.steps.Step.{Step}
pub use Rattle.trace_events.specs.Range.{is_seconds, is_short, is_request}
pub use Rattle.core_model.specs.Fit.{with_step, FitsExtendedTrace, ForAllFittedTraces}
pub use Rattle.core_model.specs.Parts.{state_of, SavedState}
pub use Rattle.core_text.specs.Refused.{IsTextOf, IsCut, IsOther}
pub use Rattle.host_calls.specs.Record.{NewCallsSatisfy}
pub use Rattle.child_table.specs.Lists.{record_by_id, is_quiet}
pub use Rattle.supervisor.specs.Grows.{Grows, ExtendsLogFromCore, ExtendsLogFromReader}
pub use Rattle.core_model.specs.Decide.{is_drained}
