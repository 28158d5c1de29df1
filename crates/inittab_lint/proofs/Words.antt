-- Names that all proofs of this crate import.
pub use Rattle.std.proofs.Common.{◌≡◌, refl, ap, sym, ◌∙◌, ℕ, Bool, true, false, not, List, ◌∷◌, Option, None, codes}
pub use Rattle.std.proofs.Common.{Some, ◌++◌, ◌&&◌}
pub use Rattle.std.proofs.Common.{◌+◌, ◌≤◌, length, rules, arith, [], option_copied, slice_get, map, filter}
pub use Rattle.inittab_lint.specs.Shell.{operator_in, operator_of, has_hash}
pub use Rattle.text_lines.specs.Lines.{lines_of}
pub use Rattle.inittab_lint.specs.Warnings.{warnings_of_lines, warnings_of, warnings_of_texts, at_line, holds}
pub use Rattle.inittab_lint.specs.Warnings.{warnings_by}
