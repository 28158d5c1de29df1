-- Names that all proofs of this crate import.
pub use Rattle.std.proofs.Common.{◌≡◌, refl, ap, ◌∙◌, subst, cond, nat_lt, ℕ, ◌+◌, ◌-◌, Bool, true, false, List, []}
pub use Rattle.std.proofs.Common.{◌∷◌, ◌++◌, length, filter, Option, Some, None, Result, Ok, Err, arith, ◌≢◌, ◌⊎◌, sym}
pub use Rattle.std.proofs.Common.{inl, inr, codes, OnOk, IfErr, suc, not, ◌||◌, IfOk, ◌*◌}
pub use Rattle.host_calls.specs.Calls.{HostCall, AddsCall}
pub use Rattle.host_calls.specs.Record.{NewCallsSatisfy}
pub use Rattle.host_calls.proofs.Record.{NewCallsSatisfy-map, NewCallsSatisfy-one, NewCallsSatisfy-then}
pub use Rattle.host_calls.proofs.Record.{NewCallsSatisfy-none}
pub use Rattle.rc_driver.specs.declared.runs.RcAnswer.{RcAnswer}
pub use Rattle.rc_driver.specs.declared.runs.ScriptOptions.{ScriptOptions}
pub use Rattle.program_io.specs.Reports.{AppendsReport, ReportList}
pub use Rattle.program_io.specs.Writing.{AppendsPrefix}
pub use Rattle.rc_driver.specs.Parts.{Begins, EndsEarly, ScriptProgresses, ScriptContinues, GoneTo, HasRun, Advanced}
pub use Rattle.rc_driver.specs.Parts.{EndsCommand}
pub use Rattle.rc_driver.specs.Parts.{is_born, is_found}
pub use Rattle.rc_driver.specs.Progress.{RunsTo, by_late, by_look, by_reply, by_start, count_pauses, is_pause}
pub use Rattle.rc_driver.specs.Progress.{is_waiting, script_id}
pub use Rattle.rc_driver.specs.Report.{Tells, command_text, Output, TellsStart, WritesEnds, begin_line, done_end}
pub use Rattle.rc_driver.specs.Report.{is_over, line_of, lines_of, report, output}
pub use Rattle.rc_driver.specs.Times.{due_by, due_signal, signal_line, time_lines, timer_at, timer_by}
pub use Rattle.std.specs.Io.KnownBytes.{Appends}
pub use Rattle.std.proofs.KnownBytes.{Appends-nil, Appends-trans}
pub use Rattle.std.proofs.lemmas.Bool.{true≢false}
pub use Rattle.program_io.proofs.WritingLemmas.{AppendsPrefix-first, AppendsPrefix-then}
pub use Rattle.rc_driver.specs.declared.driving.RunEnd.{RunEnd}
pub use Rattle.rc_driver.specs.Printing.{PrintStops, Printed, PrintsLinks, command_line, command_lines}
pub use Rattle.rc_driver.specs.Runs.{LinkRun, RcState, is_failure}
pub use Rattle.rc_driver.specs.Told.{ScriptsEndAt, RunsFrom, RunsLinks, RanBy}
