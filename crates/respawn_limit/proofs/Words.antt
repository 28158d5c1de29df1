-- Names that the proofs of this crate share.
pub use Rattle.std.proofs.Common.{◌≡◌, ◌-◌, sym, ◌∙◌, ap, arith, get_or, length, nat_lt, ◌+◌, rules, ◌++◌, ◌∷◌, []}
pub use Rattle.std.proofs.Common.{subst, ℕ, ◌<◌, ◌≤◌, Bool, true, false, inl, inr, List, refl, nat_le, Option, Some}
pub use Rattle.std.proofs.Common.{append_assoc, cond, take, drop, length-append, length-drop, None}
pub use Rattle.std.proofs.lemmas.Bool.{eqb-true, and_parts, cases_lt, le-leb, leb-true, cases_Bool}
pub use Rattle.respawn_limit.specs.declared.TheConstants.{STARTS, WINDOW, HOLD}
pub use Rattle.respawn_limit.specs.declared.May.TheVariants.{Yes, HoldUntil}
pub use Rattle.respawn_limit.specs.Window.{may_of, last_starts, is_full, answer, with_start, KeepsLastStarts, is_recent}
pub use Rattle.respawn_limit.specs.Window.{window_answer}
pub use Rattle.std.specs.List.Sorted.{IsNonDecreasing}
pub use Rattle.respawn_limit.specs.State.{LimiterState}
pub use Rattle.std.specs.Prelude.{All, count_by}
pub use Rattle.std.specs.List.{list_all, AllPass}
pub use Rattle.std.proofs.lemmas.Bool.Decides.{nat_tests}
pub use Rattle.std.proofs.lemmas.List.{append-nil, get_or-drop, get_or-take, length-take-le, drop-append-le, drop-drop}
pub use Rattle.std.proofs.lemmas.List.Elements.{All-nil, All-push, All-weaker, All-head, All-tail, All-from_get_or}
pub use Rattle.std.proofs.lemmas.List.Sums.{sum_by-append, sum_by_push, sum_by-cons, sum_by-take-drop}
pub use Rattle.std.proofs.lemmas.List.Sums.{count_by-le-length}
