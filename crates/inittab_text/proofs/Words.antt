-- Names that the proofs of this crate share.
pub use Rattle.std.proofs.Common.{arith, ◌≡◌, true, List, [], ◌∷◌, Option, Some, None, Result, Ok, refl, ℕ, sym, ◌∙◌}
pub use Rattle.std.proofs.Common.{ap, cond, zero, suc, ◌+◌, ◌<◌, ◌≤◌, Bool, false, not, ◌++◌, length, drop, slice_get}
pub use Rattle.std.proofs.Common.{length-append, map, find, subst, ◌==◌, ◌-◌, take, get_or, filter, IsErrOf, ◌↔◌}
pub use Rattle.std.proofs.Common.{nat_lt, nat_le, is_some, Err, ◌*◌, ◌&&◌, lit≤, ◌≢◌, append-nil, codes, lit<, rules}
pub use Rattle.init_words.specs.declared.entries.Entry.{Entry}
pub use Rattle.inittab_text.specs.declared.faults.LineKind.{LineKind}
pub use Rattle.inittab_text.specs.Tables.{entry_of, is_distinct, has_id, default_level_of, default_of, ids_of}
pub use Rattle.inittab_text.specs.Tables.{first_level}
pub use Rattle.text_lines.specs.Lines.{lines_of, has_byte, newlines, after_lines, onto_first_line, skip_blanks}
pub use Rattle.inittab_text.specs.Checks.{verdict_of, is_too_long, is_missing, is_text, checked_with, checked}
pub use Rattle.inittab_text.specs.Reading.{entries_after, entries_from, table_of_text, faults_at, faults_from}
pub use Rattle.inittab_text.specs.Reading.{faults_of_text}
pub use Rattle.inittab_text.specs.Parts.{entries_of_texts, table_of_texts, AreTooLong, AreTooMany, are_readable}
pub use Rattle.inittab_text.specs.Parts.{in_part, size_of_texts, faults_of_texts, faults_of_parts}
pub use Rattle.std.specs.Map.{keys_of, values_of, lookup}
pub use Rattle.std.specs.List.{list_any, list_all, filter_map, cons_option}
pub use Rattle.std.specs.Option.{option_or, IfSome, IfNone}
pub use Rattle.std.proofs.lemmas.Bool.{and_parts, and_from, or_parts, or_from, not-true, not_from_false, not_from_true}
pub use Rattle.std.proofs.lemmas.Bool.{not-false, ltb-false, leb-false, le-leb, false≢true, ltb-true, lt-ltb, leb-true}
pub use Rattle.std.proofs.lemmas.Bool.{le-ltb, lt-leb, ne_eqb, eqb-false}
pub use Rattle.std.proofs.lemmas.List.{length_push, take_more, drop_at, get_or_at, length-map, at_drop_all}
pub use Rattle.inittab_text.specs.declared.tables.TheConstants.{ENTRY_LIMIT}
pub use Rattle.init_words.specs.Ids.{same_id, is_id, is_id_byte}
pub use Rattle.inittab_text.specs.Written.{is_written, is_table, text_of, line_of, fields_written, table_begun}
pub use Rattle.inittab_text.specs.Written.{table_written, has_no_repeat, is_levels, is_process, levels_written}
pub use Rattle.inittab_text.specs.Written.{is_empty}
pub use Rattle.std.specs.Str.{bytes_eq, IsUtf8, is_utf8, IsAscii}
pub use Rattle.std.proofs.lemmas.Option.{option_and_then_some, some_pair_parts, none-some}
pub use Rattle.text_lines.proofs.CutLemmas.{cut-append, cut-parts, has_byte-parts, has_byte-skip_blanks}
pub use Rattle.text_lines.proofs.CutLemmas.{lines_of-append, has_byte-append}
pub use Rattle.text_lines.proofs.PieceLemmas.{after_lines-front, newlines-append, newlines-line, take-front}
pub use Rattle.init_words.specs.declared.levels.Mark.{Mark}
pub use Rattle.init_words.specs.Levels.{mark_code, mark_read, same_mark, names}
pub use Rattle.inittab_text.specs.Kept.{without_repeats, marks_of, with_mark, levels_meant, levels_kept, kept_of}
pub use Rattle.std.proofs.lemmas.Str.{is_utf8-from_IsUtf8, IsUtf8-from_is_utf8, IsUtf8-nil, IsUtf8-drop}
pub use Rattle.std.proofs.lemmas.Str.{IsCharBoundary-after_ascii, IsUtf8-append, IsUtf8-from_ascii}
pub use Rattle.init_words.specs.declared.entries.TheConstants.{MARK_LIMIT, PROCESS_LIMIT}
pub use Rattle.init_words.specs.declared.actions.Act.{Act}
pub use Rattle.init_words.specs.Actions.{act_read, ignores_levels, has_process, needs_process, word_of}
pub use Rattle.inittab_text.specs.Lines.{FieldBytes, fields_of, is_ignored}
pub use Rattle.init_words.proofs.IdParts.{id_parts}
pub use Rattle.inittab_text.specs.declared.reading.TheConstants.{TEXT_LIMIT}
pub use Rattle.init_words.specs.Parts.{texts_of}
