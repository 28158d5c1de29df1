-- Names that all proofs of this crate import.
pub use Rattle.std.proofs.Common.{sym, ◌∙◌, ap, subst, List, ◌++◌, Ok, Err, OnOk, OnErr, append_assoc, ◌≡◌, refl, Bool}
pub use Rattle.std.proofs.Common.{true, false, [], ◌∷◌, append-nil, reverse, is_ok, ◌&&◌, arith, ap₂, ℕ, Option, Some}
pub use Rattle.std.proofs.Common.{None, rules, suc}
pub use Rattle.std.specs.declared.result.Result.{Result}
pub use Rattle.trace_events.specs.Event.{Event}
pub use Rattle.trace_log.specs.Logs.{LogState}
pub use Rattle.trace_log_wrappers.specs.Adding.{AddsHappenings, AddsFront, held_first, newly_first, newly_first_by}
pub use Rattle.trace_log_wrappers.specs.Keeping.{Grows, EndsBrief, HandsOn, BriefLogAccepted, Writes}
pub use Rattle.std.proofs.lemmas.List.{reverse-append, reverse-reverse}
pub use Rattle.trace_log_wrappers.specs.declared.held.HeldBack.{HeldBack}
pub use Rattle.trace_log_wrappers.specs.Brief.{brief_of}
pub use Rattle.trace_log_wrappers.specs.Holding.{Holds, held_events, next_held, look_events, round_events}
pub use Rattle.trace_log_wrappers.specs.Holding.{reading_events}
pub use Rattle.trace_log_wrappers.specs.Holding.{held_back, written_of, newly_by, newly_written}
pub use Rattle.trace_events.specs.Range.{is_in_range}
pub use Rattle.trace_log_wrappers.specs.Notes.{AreNotesOf, IsRunning}
