-- Names that all proofs of this crate import.
pub use Rattle.std.proofs.Common.{◌≡◌, ◌∙◌, ap, refl, sym, true, ℕ, List, Bool, codes, Option, Some, option_and_then}
pub use Rattle.std.proofs.Common.{◌≢◌, ◌⊎◌, inl, inr, arith, ◌-◌, false, cond, ◌||◌, [], ◌∷◌, length, subst, Global}
pub use Rattle.std.proofs.Common.{String, map, string_bytes, rules, IsSome}
pub use Rattle.clap.specs.Words.{Row, is_simple_and_free, found_of, rows_of}
pub use Rattle.rc_command.specs.CommandLine.{command_line, options_with, arguments_in, rc_arguments, seconds_option}
pub use Rattle.rc_command.specs.CommandLine.{Asked}
pub use Rattle.rc_command.specs.CommandLine.{RcArguments, entering, arguments_at, arguments_of}
pub use Rattle.rc_command.specs.declared.command.RunOptions.{RunOptions}
pub use Rattle.std.proofs.lemmas.Bool.{true≢false}
pub use Rattle.rc_command.specs.Endings.{AreNames, ForResolvedArguments, IsBefore, IsStatusOf, AllScriptsEnded, Reports}
pub use Rattle.rc_command.specs.Endings.{ReportsFirst}
pub use Rattle.rc_command.specs.Endings.{ReportsNames, RunsRequestedScripts, RunsNames, RunsArguments, RunsScripts}
pub use Rattle.rc_command.specs.Endings.{ReportsEnd}
pub use Rattle.rc_command.specs.Endings.{rc_of}
pub use Rattle.rc_command.specs.Endings.{status_of, written}
pub use Rattle.rc_driver.specs.Runs.{LinkRun, RcState, is_failure}
pub use Rattle.rc_driver.proofs.RunLemmas.{writes_ends, AppendsPrefix-none}
pub use Rattle.std.proofs.lemmas.Result.{IfErr-weaker, IfOk-weaker}
