-- Names that all proofs of this crate import.
pub use Rattle.std.proofs.Common.{◌≡◌, ℕ, zero, suc, ◌+◌, ◌-◌, ◌<◌, ◌≤◌, true, false, ◌&&◌, nat_lt, nat_le, List, []}
pub use Rattle.std.proofs.Common.{◌∷◌, ◌++◌, length, take, drop, Option, Some, None, option_and_then, refl, sym, ap}
pub use Rattle.std.proofs.Common.{◌∙◌, subst, arith, length-append, ◌^◌, reverse, slice_get, append-nil, rules}
pub use Rattle.std.proofs.Common.{drop-drop, length-drop}
pub use Rattle.std.specs.Option.{option_map_or}
pub use Rattle.std.proofs.lemmas.List.{append_assoc, take-append-drop, reverse-append, length-reverse, take-append-le}
pub use Rattle.text_lines.specs.Lines.{cut, has_byte, newlines, after_lines}
pub use Rattle.text_lines.proofs.PieceLemmas.{newlines-append, newlines-line, Front, after_lines-front, take-front}
pub use Rattle.trace_events.specs.Event.{Event}
pub use Rattle.trace_text.specs.Lines.{event_text, table_lines, trace_text}
pub use Rattle.trace_events.specs.Range.{is_in_range, are_in_range}
pub use Rattle.trace_text.specs.Texts.{Begun, line_count, BeginsNone}
pub use Rattle.trace_text.proofs.LineTexts.{FirstLine, line_first, begun-text, text-begun, newlines-event}
pub use Rattle.trace_verdict.specs.Fronts.{lines_of, lines_due, is_unfinished, size_limit, BeginsNever, is_open}
pub use Rattle.trace_verdict.specs.Fronts.{line_left, IsFront, IsTorn}
pub use Rattle.trace_events.specs.Lawful.{broken, breach_at, earlier, first_breach}
pub use Rattle.trace_text.proofs.ReadTexts.{trace_text-push, are_in_range-push, newlines-few, shorter}
pub use Rattle.trace_check.specs.Laws.{law_number}
pub use Rattle.trace_check.specs.Judging.{Judging, Judged}
pub use Rattle.trace_verdict.specs.Answers.{Named, IsFirst, Answers}
pub use Rattle.trace_verdict.specs.Readers.{Reading, capped, ReadsNext, IsNext}
pub use Rattle.trace_verdict.specs.Judges.{TextState, IsFound, HasRead, AtBy, TakenBy, left_of, IsAt}
