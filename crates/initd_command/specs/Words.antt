-- Names from other crates that the definitions and clauses of this crate use.
pub use Rattle.program_io.specs.Reports.{AppendsReport, ReportList}
pub use Rattle.program_io.specs.Writing.{AppendsPrefix}
pub use Rattle.program_io.specs.declared.statuses.TheConstants.{DONE, REFUSED, UNLAWFUL, DEVICE_FAULT, LIMIT_REACHED}
pub use Rattle.simulator.specs.declared.running.SimFault.{SimFault}
pub use Rattle.host_calls.specs.Calls.{HostCall}
pub use Rattle.supervisor.specs.Point.{Point, point_after}
pub use Rattle.telinit_command.specs.Channels.{IsRequestFor, KnownBytes, AppendsRequest}
pub use Rattle.initd_options.specs.Options.{RunArguments, run_of}
pub use Rattle.init_words.specs.declared.entries.Entry.{Entry}
pub use Rattle.program_io.specs.Known.{KnownTexts, IsTextAt}
pub use Rattle.initd_options.specs.CommandLine.{InitdArguments, initd_read_of, runs, CheckArguments, SimulateArguments}
pub use Rattle.initd_options.specs.CommandLine.{judges}
pub use Rattle.initd_options.specs.CommandLine.{simulates, version, check_of, simulation_of}
pub use Rattle.trace_events.specs.Event.{Event}
pub use Rattle.trace_log.specs.Logs.{LogState}
pub use Rattle.host_calls.specs.Record.{NewCallsSatisfy}
pub use Rattle.supervisor.specs.CallsLead.{IfPossibleFrom, CallsWereInPlace, are_carried, is_allowed}
pub use Rattle.init_words.specs.declared.levels.Level.{Level}
pub use Rattle.core_model.specs.State.{CoreState, opening_goal}
pub use Rattle.core_model.specs.Decide.{is_drained}
pub use Rattle.core_model.specs.Fit.{FitsWithLastStatuses}
pub use Rattle.supervisor.specs.Arriving.{AreObservedTurns}
pub use Rattle.supervisor.specs.Opening.{IsOpening, start_point, IsStartOver}
pub use Rattle.supervisor.specs.declared.serving.Served.{Served}
pub use Rattle.simulator.specs.Simulation.{Done, Ends, Scenario, scenario}
pub use Rattle.init_words.specs.Parts.{NamedText, texts_of}
pub use Rattle.trace_log_wrappers.specs.declared.judgements.Judgement.{Judgement}
pub use Rattle.init_words.specs.declared.children.Status.{Status}
pub use Rattle.core_waiting.specs.Lines.{waiting_text}
pub use Rattle.trace_check.specs.Laws.{law_words, law_number}
