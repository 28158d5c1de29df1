-- Names that all proofs of this crate import.
pub use Rattle.std.proofs.Common.{◌≡◌, ◌⊎◌, ℕ, suc, ◌+◌, ◌<◌, ◌≤◌, Bool, true, false, cond, List, [], ◌∷◌, ◌++◌, length}
pub use Rattle.std.proofs.Common.{take, drop, get_or, reverse, refl, sym, ap, ◌∙◌, arith, inl, inr, ◌==◌, slice_index}
pub use Rattle.std.proofs.Common.{Option, Some, None, ◌&&◌, ◌^◌, Result, Ok, Err, nat_lt, decimal, Bor, zero, ◌-◌, not}
pub use Rattle.std.proofs.Common.{filter, slice_get, length-append, ◌||◌, subst, rules, length-drop}
pub use Rattle.std.proofs.lemmas.List.{reverse-append, reverse-reverse, append_assoc, take_rest}
pub use Rattle.text_lines.specs.Lines.{skip_blanks, is_blank, word_length, words_of, onto_first, cut, has_byte}
pub use Rattle.text_lines.specs.Lines.{lines_of, ended, newlines, after_lines, pieces_of, trim, trim_end}
pub use Rattle.std.proofs.lemmas.Bool.{false_from_ne_true, or_parts, eqb-true, false≢true, ltb-true, not-true}
pub use Rattle.std.proofs.lemmas.Bool.{not-false}
pub use Rattle.std.specs.Result.{result_ok}
pub use Rattle.std.proofs.lemmas.Str.{IsUtf8-from_ascii, IsCharBoundary-after_ascii, IsUtf8-drop, IsUtf8-take}
pub use Rattle.std.proofs.lemmas.Str.{IsUtf8-nil, is_utf8-from_IsUtf8, IsUtf8-from_is_utf8}
pub use Rattle.std.specs.Str.{bytes_eq, IsCharBoundary, is_utf8}
