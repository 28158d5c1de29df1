-- Names that all proofs of this crate import.
pub use Rattle.std.proofs.Common.{◌≡◌, ℕ, ◌+◌, Bool, true, false, cond, if◌then◌else◌, not, ◌&&◌, ◌==◌, List, [], ◌∷◌}
pub use Rattle.std.proofs.Common.{◌++◌, drop, Option, Some, None, unwrap_or, refl, sym, ap, subst, arith, ◌≤◌, length}
pub use Rattle.std.proofs.Common.{◌<◌, ◌^◌, ◌-◌, ◌∙◌, map, string_bytes, take, get_or, suc, reverse, is_some}
pub use Rattle.std.proofs.Common.{MatchOption}
pub use Rattle.std.specs.List.{list_any}
pub use Rattle.std.specs.Str.{IsUtf8, is_utf8, IsCharBoundary}
pub use Rattle.lsb_header.specs.Blocks.{block_fault, continued, description_of, find_header, is_end, block_of}
pub use Rattle.lsb_header.specs.Blocks.{levels_of}
pub use Rattle.lsb_header.specs.Headers.{text_at}
pub use Rattle.text_lines.specs.Lines.{cut, trim, lines_of, words_of}
pub use Rattle.text_lines.proofs.Utf8Lemmas.{trim-utf8}
