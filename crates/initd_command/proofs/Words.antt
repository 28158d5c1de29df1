-- Names that the proofs of this crate use.
pub use Rattle.std.proofs.Common.{◌≡◌, refl, sym, ap, subst, ◌∙◌, Result, Ok, Err, IfErr, OnOk, ◌⊎◌, inl, inr, List, []}
pub use Rattle.std.proofs.Common.{ℕ, true, Option, Some, None, Bool, false, not, ◌&&◌, if◌then◌else◌, ◌++◌, reverse}
pub use Rattle.std.proofs.Common.{is_some, ◌∷◌, IfOk, OnErr, string_bytes, rules, map, codes, arith, ◌+◌, ◌*◌, ◌/◌, ◌%◌}
pub use Rattle.std.proofs.Common.{length}
pub use Rattle.std.specs.Prelude.{unwrap_or, ⊤, option_map}
pub use Rattle.std.specs.Io.KnownBytes.{Keeps, Appends}
pub use Rattle.program_io.specs.Known.{KnownTexts, IsTextAt}
pub use Rattle.std.proofs.KnownBytes.{Appends-kept, Keeps-trans, Keeps-refl}
pub use Rattle.simulator.specs.Simulation.{Done, Ends, Scenario, past_text, scenario}
pub use Rattle.initd_command.specs.Endings.{RunRemarks, refused, turned, count_message, unlawful, unwritten}
pub use Rattle.initd_command.specs.Endings.{TraceJudgement}
pub use Rattle.initd_command.specs.Endings.{torn}
pub use Rattle.initd_command.specs.Endings.{lawful, unfinished, Ending, usage, usage_named, done, unversioned, stopped}
pub use Rattle.initd_command.specs.Endings.{unflushed}
pub use Rattle.initd_command.specs.Services.{HasInittab, IsInittab, TakesParts, is_taken, told_of, AreNotesOfRun}
pub use Rattle.initd_command.specs.Services.{IsServed}
pub use Rattle.initd_command.specs.Services.{LogEnds, TurnsFrom, judgement_for, noted_of, has_no_level, table_in}
pub use Rattle.initd_command.specs.Services.{end_of}
pub use Rattle.initd_command.specs.Services.{Writes, IsRunObstacle, AreFiles, AppearInOrder, run_paths}
pub use Rattle.initd_options.specs.Options.{RunArguments, run_of}
pub use Rattle.std.proofs.lemmas.List.{append-nil, reverse-append, reverse-reverse, length-drop}
pub use Rattle.init_words.specs.declared.entries.Entry.{Entry}
pub use Rattle.trace_events.specs.Event.{Event}
pub use Rattle.trace_log.specs.Logs.{LogState}
pub use Rattle.host_calls.specs.Calls.{HostCall}
pub use Rattle.trace_log_wrappers.specs.Notes.{IsRunning, Notes, AreNotesOf, is_wanted}
pub use Rattle.trace_log_wrappers.specs.Watching.{Watched, watched_state}
pub use Rattle.supervisor.specs.declared.serving.Served.{Served}
pub use Rattle.core_waiting.specs.Lines.{waiting_text}
pub use Rattle.supervisor.specs.Opening.{IsOpening, start_point, IsStartOver, StartState}
pub use Rattle.trace_log_wrappers.specs.declared.judgements.Judgement.{Judgement}
pub use Rattle.trace_log_wrappers.specs.Judgements.{IsJudgementOf}
pub use Rattle.host_calls.specs.Record.{NewCallsSatisfy}
pub use Rattle.initd_options.specs.CommandLine.{InitdArguments, judges, runs, simulates, version, CheckArguments}
pub use Rattle.initd_options.specs.CommandLine.{check_of}
pub use Rattle.initd_options.specs.CommandLine.{initd_read_of, simulation_of}
pub use Rattle.initd_command.specs.Turned.{End, ReportsText, listed_after}
pub use Rattle.host_calls.specs.Settings.{HostSettings}
pub use Rattle.initd_command.specs.Ran.{CommandLineAsks, MakesLogged, MakesTraced, RanBy, RunRecord, ArgumentsAsk}
pub use Rattle.initd_command.specs.Ran.{HasSettings}
pub use Rattle.program_io.specs.Reports.{AppendsReport, ReportList}
pub use Rattle.program_io.specs.Writing.{AppendsPrefix}
pub use Rattle.initd_command.specs.Verdicts.{cut_at, within_of, breach_message, unlawful_text, EndsFound, judged_of}
pub use Rattle.initd_command.specs.Verdicts.{verdict_of}
pub use Rattle.std.proofs.lemmas.Result.{IfOk-weaker}
