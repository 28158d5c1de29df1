-- Names that all proofs of this crate import.
pub use Rattle.std.proofs.Common.{◌≡◌, ℕ, Bool, true, false, cond, List, [], ◌∷◌, map, refl, sym, ap, not, ◌&&◌, ◌++◌}
pub use Rattle.std.proofs.Common.{◌∙◌, arith, string_bytes, drop}
pub use Rattle.std.specs.List.{dedup, dedup_from, filter}
pub use Rattle.std.specs.Str.{bytes_eq, byte}
pub use Rattle.rc_links.proofs.LinkLemmas.{in_byte_order-moves, one_order, sorted_texts}
pub use Rattle.rc_driver.specs.Links.{is_link, is_skipped, is_started, has_link}
pub use Rattle.rc_driver.specs.Runs.{rc_run, with_arg, texts_of, scripts_of}
