-- Names that all proofs of this crate import.
pub use Rattle.std.proofs.Common.{◌≡◌, ℕ, zero, suc, ◌+◌, ◌≤◌, List, [], ◌∷◌, ◌++◌, Option, Some, None, option_and_then}
pub use Rattle.std.proofs.Common.{refl, ap, ◌∙◌, arith, ◌*◌, ◌-◌, ◌<◌, ◌^◌, Bool, true, false, cond, not, ◌&&◌, nat_lt}
pub use Rattle.std.proofs.Common.{nat_le, length, sym, codes, decimal, subst, append-nil, length-append, lit<, ◌≢◌}
pub use Rattle.std.proofs.Common.{◌==◌, filter, drop, map, rules}
pub use Rattle.std.proofs.lemmas.List.{append_assoc, nil_from_length}
pub use Rattle.std.proofs.lemmas.Option.{none-some, option_and_then_some, some_pair_parts, same_Some}
pub use Rattle.text_lines.specs.Lines.{cut, newlines, after_lines, has_byte}
pub use Rattle.text_lines.proofs.CutLemmas.{cut-parts, cut-lacks, cut-append, has_byte-append}
pub use Rattle.text_lines.proofs.PieceLemmas.{newlines-append, newlines-none, pieces_of-joined, newlines-line}
pub use Rattle.text_lines.proofs.PieceLemmas.{pieces_of-cut, pieces_of-whole}
pub use Rattle.std.specs.Option.{option_map, option_map_or, IfSome, IfNone}
pub use Rattle.std.proofs.lemmas.Bool.{and_parts, and_from, ltb-true, leb-true, le-leb, lt-ltb, not-true}
pub use Rattle.std.proofs.lemmas.Fmt.{decimal_digit, length-decimal-le}
pub use Rattle.text_lines.proofs.NumberLemmas.{number_read-decimal, decimal-number_read, decimal-lacks}
pub use Rattle.init_words.specs.declared.children.Status.{Status}
pub use Rattle.init_words.specs.declared.children.Status.TheVariants.{Exit, Killed}
pub use Rattle.init_words.specs.declared.levels.Level.{Level}
pub use Rattle.init_words.specs.declared.levels.Letter.{Letter}
pub use Rattle.init_words.specs.declared.stages.Stage.{Stage}
pub use Rattle.init_words.specs.declared.orders.OrderKind.{OrderKind}
pub use Rattle.init_words.specs.declared.orders.OrderKind.TheVariants.{Start, Look, Term, Kill}
pub use Rattle.init_words.specs.declared.orders.PowerKind.{PowerKind}
pub use Rattle.init_words.specs.declared.limits.TheConstants.{GRACE_LIMIT}
pub use Rattle.init_words.specs.Ids.{is_id, is_id_byte, same_id, id_read}
pub use Rattle.init_words.proofs.Same.{same_id-is}
pub use Rattle.text_lines.specs.Numbers.{number_read}
pub use Rattle.initctl_frame.specs.declared.requests.Cause.{Cause}
pub use Rattle.inittab_text.proofs.ReadLemmas.{option_map_some}
pub use Rattle.trace_events.specs.declared.happenings.Happening.TheVariants.{NewTable, NotRead, Enter, Call, Power}
pub use Rattle.trace_events.specs.declared.happenings.Happening.TheVariants.{Asked, Hold, Settle, Birth, NoBirth, Death}
pub use Rattle.trace_events.specs.declared.happenings.Happening.TheVariants.{Reaped, Still, NoLook, Hit, Miss, Told}
pub use Rattle.trace_events.specs.declared.happenings.Happening.TheVariants.{Clock, Nudge, Got, Handed}
pub use Rattle.trace_events.specs.Event.{Event}
pub use Rattle.trace_text.specs.Lines.{words_of, words_behind, line_of_words, table_lines, event_text, level_word}
pub use Rattle.trace_text.specs.Lines.{letter_word, stage_word, order_word, power_word, cause_number, status_words}
pub use Rattle.trace_text.specs.Lines.{got_words, handed_words, trace_text}
pub use Rattle.trace_events.specs.Range.{is_in_range, is_number, is_status, is_request, is_hand_over, are_in_range}
pub use Rattle.trace_text.specs.Texts.{Begun, line_count, BeginsNone}
pub use Rattle.trace_text.specs.Reading.{level_of_word, letter_of_word, stage_of_word, order_of_word, power_of_word}
pub use Rattle.trace_text.specs.Reading.{cause_of_word, words_read, words_in, entries_brought, use_begun, begun_by}
pub use Rattle.trace_text.specs.Reading.{begun, both, all_three, own_level, seconds_of_word, child_of_word}
pub use Rattle.trace_text.specs.Reading.{code_of_word, one_read, about_read, request_read, request_pair_read}
pub use Rattle.trace_text.specs.Reading.{handed_read, handed_pair_read, two_read, three_read, level_wanted, four_read}
pub use Rattle.trace_text.specs.Reading.{five_read}
