-- Names that all proofs of this crate import.
pub use Rattle.std.proofs.Common.{◌≡◌, ◌≢◌, ℕ, zero, suc, ◌-◌, Bool, true, false, cond, not, ◌&&◌, ◌==◌, List, [], ◌∷◌}
pub use Rattle.std.proofs.Common.{◌++◌, length, take, map, append-nil, codes, Option, Some, None, Result, Ok, Err, refl}
pub use Rattle.std.proofs.Common.{sym, ap, ◌∙◌, subst, arith, ◌+◌, ◌/◌, ◌%◌, ◌<◌, nat_lt, drop, decimal, lit<}
pub use Rattle.std.proofs.Common.{length-append, ◌⊎◌, inl, inr, nat_le, is_none, ◌^◌, ◌≤◌, find, rules, get_or}
pub use Rattle.std.specs.List.{list_all, starts_with, join_with_byte, flat_map}
pub use Rattle.std.proofs.lemmas.Bool.{and_parts, and_from, lt-ltb, not-true, ne_eqb, or_from, eqb-true, le-leb}
pub use Rattle.std.proofs.lemmas.Bool.{leb-true, false_from_ne_true, ltb-true}
pub use Rattle.std.proofs.lemmas.List.{append_assoc, length-map, nil_from_length}
pub use Rattle.std.proofs.lemmas.List.Folds.{list_all-append}
pub use Rattle.std.proofs.lemmas.Option.{option_and_then_some, same_Some, some_pair_parts}
pub use Rattle.text_lines.specs.Lines.{after_lines, cut, has_byte, newlines, pieces_of}
pub use Rattle.text_lines.proofs.CutLemmas.{cut-append, cut-parts, has_byte-append}
pub use Rattle.text_lines.proofs.PieceLemmas.{newlines-append, newlines-line, take-front, pieces_of-cut}
pub use Rattle.text_lines.proofs.PieceLemmas.{pieces_of-whole, pieces_of-joined, after_lines-front}
pub use Rattle.init_words.specs.declared.entries.Entry.{Entry}
pub use Rattle.inittab_text.proofs.Entries.{table_parts}
pub use Rattle.inittab_text.proofs.ReadLemmas.{option_map_some}
pub use Rattle.inittab_text.proofs.WriteLemmas.{one_line, parts, act_back}
pub use Rattle.inittab_text.specs.Written.{fields_written, is_empty, is_table, is_written, levels_written, table_begun}
pub use Rattle.inittab_text.specs.Written.{text_of}
pub use Rattle.core_model.specs.declared.parts.CoreFields.{CoreFields}
pub use Rattle.core_text.specs.declared.state_fault.StateFault.{StateFault}
pub use Rattle.core_model.specs.declared.parts.PlainSlot.{PlainSlot}
pub use Rattle.core_model.specs.Parts.{SavedState, record_of, state_of}
pub use Rattle.core_text.specs.declared.versions.Version.{Version}
pub use Rattle.core_text.specs.Versions.{holds_table, holds_id}
pub use Rattle.core_text.specs.Lines.{body_lines, head_lines, slot_line, table_line, text_of_lines, version_line}
pub use Rattle.core_text.specs.Lines.{end_line, bit, or_word, clock_line, flags_line, generation_line, goal_line}
pub use Rattle.core_text.specs.Lines.{goal_word, or_dash, stage_line, starts_word, status_word, stop_word, wish_line}
pub use Rattle.core_text.specs.Lines.{state_lines, state_text, text_in, bits}
pub use Rattle.core_text.specs.Range.{are_fields, is_record, is_state, passes, are_starts, is_child, is_generation}
pub use Rattle.core_text.specs.Range.{is_goal, is_last_status, is_seconds, is_stage, is_stop, is_time, has_ranged_words}
pub use Rattle.core_text.specs.Range.{has_short_seconds}
pub use Rattle.core_text.specs.Reading.{OnLine, end_split, fields_read, last_line, table_read, version_read, checked_by}
pub use Rattle.core_text.specs.Reading.{pair, pair_read, after_prefix, named_read, or_read, bit_read, first_bit}
pub use Rattle.core_text.specs.Reading.{line_read, then_read, made_read, EndWords, FlagWords, LimitWords, MarkWords}
pub use Rattle.core_text.specs.Reading.{PlaceWords, SlotWords, TimeWords, WishWords, clock_line_read, dash_read}
pub use Rattle.core_text.specs.Reading.{ends_read, without_status, status_read, starts_read, flags_line_read}
pub use Rattle.core_text.specs.Reading.{flags_read, four_bits, generation_line_read, generation_read, goal_line_read}
pub use Rattle.core_text.specs.Reading.{goal_made, goal_read, fields_made, limits_read, marks_read, one_bit}
pub use Rattle.core_text.specs.Reading.{places_read, reread_read, slot_line_read, slot_made, slot_words_read}
pub use Rattle.core_text.specs.Reading.{stage_line_read, stage_pair_read, stop_read, table_line_read, end_line_read}
pub use Rattle.core_text.specs.Reading.{three_bits, time_read, times_read, two_bits, version_of_line, wish_line_read}
pub use Rattle.core_text.specs.Reading.{wishes_read, generation_of, all_read, table_in, id_in_read, signal_read}
pub use Rattle.core_text.specs.Refused.{AreRecords, IsBody, IsBodyIn, NoBody, NoRecords, RefusedBody, is_line, IsTextOf}
pub use Rattle.core_text.specs.Refused.{Whole, IsTextIn, BeginsAs, BeginsAsKnown, IsCut, IsOtherVersion, Refused}
pub use Rattle.core_text.specs.Refused.{SaysNone}
pub use Rattle.std.proofs.lemmas.Slice.Eq.{starts_is, bytes_eq-Decides}
pub use Rattle.init_words.specs.Actions.{word_of, act_read, acts}
pub use Rattle.init_words.specs.Ids.{is_id_byte, same_id, is_id, id_read}
pub use Rattle.init_words.proofs.IdParts.{id_parts}
pub use Rattle.init_words.proofs.Same.{same_id-is, same_id-self}
pub use Rattle.trace_text.specs.Reading.{both, child_of_word, order_of_word, stage_of_word, level_of_word}
pub use Rattle.trace_text.specs.Reading.{seconds_of_word, code_of_word}
pub use Rattle.trace_text.proofs.LineWords.{both_some, choice, id_own, level_own, named, nothing, order_own, stage_own}
pub use Rattle.init_words.specs.declared.actions.Act.{Act}
pub use Rattle.init_words.specs.declared.children.Status.{Status}
pub use Rattle.init_words.specs.declared.orders.OrderKind.{OrderKind}
pub use Rattle.init_words.specs.declared.stages.Stage.{Stage}
pub use Rattle.trace_text.specs.Lines.{level_word, order_word, stage_word}
pub use Rattle.trace_events.specs.Range.{is_status}
pub use Rattle.core_text.specs.declared.versions.Version.TheVariants.{V1, V2}
pub use Rattle.respawn_limit.specs.declared.TheConstants.{CLOCK_LIMIT, HOLD, STARTS}
pub use Rattle.child_table.specs.declared.children.Stop.{Stop}
pub use Rattle.init_words.specs.declared.children.Status.TheVariants.{Exit}
pub use Rattle.child_table.specs.declared.children.Stop.TheVariants.{Due, Termed, Killed}
pub use Rattle.std.proofs.lemmas.Grind.{flat_map-append, common_steps}
