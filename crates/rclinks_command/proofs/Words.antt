-- Names that all proofs of this crate import.
pub use Rattle.std.proofs.Common.{◌≡◌, refl, true, ◌≢◌, inl, inr, ℕ, suc, ◌+◌, ◌<◌, Bool, false, ◌&&◌, sym, List, []}
pub use Rattle.std.proofs.Common.{◌∷◌, length, drop, get_or, arith, ◌⊎◌, ◌++◌, slice_get, unwrap_or, None, Some, ap}
pub use Rattle.std.proofs.Common.{◌==◌}
pub use Rattle.std.proofs.Common.{subst, ◌∙◌, append_assoc, map, string_bytes, take, not, Option, codes, ◌||◌, cond}
pub use Rattle.std.proofs.Common.{flat_map, option_map, IfSome, rules, Result, Ok, Err, IfErr, IfOk}
pub use Rattle.clap.specs.Words.{is_simple_and_free, found_of, rows_of}
pub use Rattle.rclinks_command.specs.Command.{command_line, HasRefused, Line, keeps_going}
pub use Rattle.rclinks_command.specs.Command.{HasNoPlan, asked_by}
pub use Rattle.std.specs.List.{list_any, AllByRecursion, filter}
pub use Rattle.std.specs.Str.{bytes_eq}
pub use Rattle.std.proofs.lemmas.Bool.{true≢false, both_ways, and_left, or_left, or_right, or_parts}
pub use Rattle.rclinks_command.specs.Files.{is_slash, last_part, AreScripts, IsNoScriptAt, IsScriptAt, file_status}
pub use Rattle.std.proofs.lemmas.List.{map-append, take-append-drop}
pub use Rattle.program_io.specs.Known.{KnownTexts}
pub use Rattle.rc_links.proofs.NameLemmas.{cut_at}
pub use Rattle.rc_links.specs.ScriptText.{ScriptText}
pub use Rattle.rclinks_command.specs.Reading.{Reads, ReadsOne, ReadsTo, has_faults}
pub use Rattle.rclinks_command.specs.declared.files.FileFault.{FileFault}
pub use Rattle.rclinks_command.specs.Reports.{ReportsFile, ReportsPlan, ReportsWhy, TellsFiles, TellsLines, TellsOne}
pub use Rattle.rclinks_command.specs.Reports.{ReportsWarning, ReportsRefused}
pub use Rattle.rclinks_command.specs.Folders.{KnownFolders, KnownScripts, changed_by, changed_in, Becomes}
pub use Rattle.rc_links.specs.ChangeText.{ChangeText}
pub use Rattle.rc_links.specs.Changes.{changes_of, is_in_way, is_left_over, is_missing, is_stale, making, removal}
pub use Rattle.rc_links.specs.Changes.{settled, targets_of, is_taken}
pub use Rattle.rc_links.specs.EntryText.{EntryText}
pub use Rattle.rc_links.specs.PlannedText.{PlannedText}
pub use Rattle.rclinks_command.specs.Writing.{AreFolders, IsFolder, all_levels, changes_in, planned_at, settled_in}
pub use Rattle.rclinks_command.specs.Writing.{InFolders, IsTaken, IsWritten, NeededChanges, gone_at, link_entry}
pub use Rattle.rclinks_command.specs.Writing.{target_of}
pub use Rattle.rclinks_command.specs.Writing.{targets_in, has_taken, changes_text}
pub use Rattle.rc_links.specs.Plans.{IsRefused, IsPlan}
pub use Rattle.rclinks_command.specs.Skipping.{IsFaultAt, LeavesSome}
