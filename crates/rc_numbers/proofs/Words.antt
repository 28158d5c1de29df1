-- Names that all proofs of this crate import.
pub use Rattle.std.proofs.Common.{◌≡◌, ℕ, zero, suc, ◌+◌, ◌-◌, ◌<◌, ◌≤◌, Bool, true, false, cond, ◌==◌, ◌&&◌, List, []}
pub use Rattle.std.proofs.Common.{◌∷◌, ◌++◌, length, get_or, take, drop, set, replicate, refl, sym, ap, ◌∙◌, subst}
pub use Rattle.std.proofs.Common.{arith, append-nil, inl, inr, ◌⊎◌, ◌||◌, max, Option, Some, None, is_some}
pub use Rattle.std.proofs.lemmas.Bool.{and_parts, eqb-true, eq-eqb, true≢false, false_from_ne_true}
pub use Rattle.rc_numbers.specs.Numbering.{AllBelow, Earliest, IsCycle, IsNumbering, IsClosedWalk, Needs, Walk, InRange}
pub use Rattle.rc_numbers.specs.Numbering.{IsLeast, AreSteps}
pub use Rattle.rc_numbers.specs.Passes.{IsStuck, need_from, AreHeights, IsPartial, height_from, raised, settled, zeros}
pub use Rattle.std.specs.Str.{bytes_eq}
pub use Rattle.std.proofs.lemmas.List.{take_rest, get_or-drop}
pub use Rattle.std.proofs.lemmas.Result.{IfOk-weaker}
pub use Rattle.std.proofs.lemmas.Grind.{common_steps}
