-- When a signal of a sound trace was sent, the child that was known when it was ordered is still unreaped and excluded.
use Rattle.trace_laws.proofs.Words.{◌≡◌, ◌≤◌, refl, sym, ◌∙◌, ℕ, Bool, true, not, ◌&&◌, ◌==◌, List, [], ◌∷◌, ◌++◌}
use Rattle.trace_laws.proofs.Words.{filter, length, Some, arith, list_any, list_all, false≢true, and_parts, and_from}
use Rattle.trace_laws.proofs.Words.{OrderKind, same_id, Hit, Goal, Event, Child, is_child_of, is_child, undone_of}
use Rattle.trace_laws.proofs.Words.{unreaped_children, is_excluded, is_sound, targets, hits_ordered_child, any_filtered}
use Rattle.trace_laws.proofs.Words.{any_within, or_false}
use Rattle.std.proofs.Common.{eq-eqb}
use Rattle.trace_laws.proofs.Tests.{is_order-is}
use Rattle.trace_laws.proofs.Orders.{undone_is_open, told_known, targets_known}
use Rattle.trace_laws.proofs.Keeps.{Holds, sound_holds}
use Rattle.trace_laws.proofs.Births.{step_at, one_child}

-- while an order of the id is not carried out, the children known when it was given are the unreaped ones
pub undone_targets : (id : List ℕ) (ask : OrderKind) (past : List Event) → Holds past → undone_of id past ≡ Some ask
    → targets id past ≡ filter (is_child_of id) (unreaped_children past)
undone_targets id ask past holds is =
    targets_known id ask past (undone_is_open id ask past is) ∙ told_known id past (holds.done id ask is)

-- at most one child of the id, which is excluded and unreaped
single_excluded : (id : List ℕ) (past : List Event) (ts : List Child) → length ts ≤ 1
    → list_any (λ child. is_child_of id child && is_excluded past child) ts ≡ true → ((q : Child → Bool)
    → list_any q ts ≡ true → list_any q (unreaped_children past) ≡ true) → (not (length ts == 0) && list_all
    (λ child. is_excluded past child && list_any (is_child id child.number) (unreaped_children past)) ts) ≡ true
single_excluded id past [] one there within = absurd (false≢true there)
single_excluded id past (child ∷ []) one there within =
    let parts = and_parts (is_child_of id child) (is_excluded past child)
    (sym (or_false (is_child_of id child && is_excluded past child)) ∙ there) in
    let own : is_child id child.number child ≡ true =
    and_from (same_id id child.id) (child.number == child.number) parts.0 (eq-eqb child.number child.number refl) in
    and_from (is_excluded past child && list_any (is_child id child.number) (unreaped_children past)) true
    (and_from (is_excluded past child) (list_any (is_child id child.number) (unreaped_children past)) parts.1
    (within (is_child id child.number) (or_false (is_child id child.number child) ∙ own))) refl
single_excluded id past (child ∷ more ∷ rest) one there within = absurd (omega arith)

pub hit_own : (goal : Goal) (later : List Event) (id : List ℕ) (past : List Event)
    → is_sound goal (later ++ Hit id ∷ past) ≡ true → hits_ordered_child (Hit id) past ≡ true
hit_own goal later id past h = grind (
  arith,
  step_at,
  undone_targets,
  single_excluded,
  one_child,
  any_within,
  any_filtered,
  Holds,
  sound_holds,
  is_order-is,
)
