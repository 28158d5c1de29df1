-- Births in sound traces: no child is born out of place, and no id has two unreaped children.
use Rattle.trace_laws.proofs.Words.{◌≡◌, ◌≤◌, refl, sym, ◌∙◌, ap, ℕ, Bool, true, false, cond, List, [], ◌∷◌, ◌++◌}
use Rattle.trace_laws.proofs.Words.{filter, length, lit≤, arith, false≢true, and_parts, same_id, NewTable, Birth, Goal}
use Rattle.trace_laws.proofs.Words.{Event, Child, is_child_of, has_child, newborn, unreaped_children, kept_children}
use Rattle.trace_laws.proofs.Words.{is_owed_before, may_come, is_sound, has_no_unreaped_child, has_startable_entry}
use Rattle.trace_laws.proofs.Words.{is_in_turn, no_unreaped_is_excluded}
use Rattle.trace_laws.proofs.Words.{same_id-is, falsely, not_from, filter_none}
use Rattle.trace_laws.proofs.Orders.{unreaped_kept}
use Rattle.trace_laws.proofs.Keeps.{born_ready, Ready, sound_holds, sound_ind}

-- the past of a happening of a sound trace is sound
sound_rest : (goal : Goal) (happening next : Event) (past : List Event) → is_sound goal (happening ∷ next ∷ past) ≡ true
    → (may_come goal happening (next ∷ past) ≡ true) × (is_sound goal (next ∷ past) ≡ true)
sound_rest goal (NewTable table) next past h =
    and_parts (may_come goal (NewTable table) (next ∷ past)) (is_sound goal (next ∷ past)) h
sound_rest goal happening next past h =
    and_parts (may_come goal happening (next ∷ past)) (is_sound goal (next ∷ past)) h

pub sound_before : (goal : Goal) (later : List Event) (happening : Event) (past : List Event)
    → is_sound goal (later ++ happening ∷ past) ≡ true → is_sound goal (happening ∷ past) ≡ true
sound_before goal [] happening past h = h
sound_before goal (x ∷ []) happening past h = (sound_rest goal x happening past h).1
sound_before goal (x ∷ y ∷ later) happening past h =
    sound_before goal (y ∷ later) happening past (sound_rest goal x y (later ++ happening ∷ past) h).1

-- what holds of the empty trace and of every sound trace holds at each moment of a sound trace
pub at_moment : (goal : Goal) (P : List Event → Type 0) → P [] → ((past : List Event) → is_sound goal past ≡ true
    → P past) → (later past : List Event) → is_sound goal (later ++ past) ≡ true → P past
at_moment goal P none each later [] h = none
at_moment goal P none each later (happening ∷ past) h =
    each (happening ∷ past) (sound_before goal later happening past h)

-- a happening other than a table was one that may come, and its past is sound
abbrev pub is_table : Event → Bool
is_table (NewTable table) = true
is_table _ = false

pub sound_step : (goal : Goal) (happening : Event) (past : List Event) → is_table happening ≡ false
    → is_sound goal (happening ∷ past) ≡ true → (may_come goal happening past ≡ true) × (is_sound goal past ≡ true)
sound_step goal (NewTable table) past other h = absurd (false≢true (sym other))
sound_step goal happening past other h = and_parts (may_come goal happening past) (is_sound goal past) h

pub step_at : (goal : Goal) (later : List Event) (happening : Event) (past : List Event) → is_table happening ≡ false
    → is_sound goal (later ++ happening ∷ past) ≡ true
    → (may_come goal happening past ≡ true) × (is_sound goal past ≡ true)
step_at goal later happening past other h =
    sound_step goal happening past other (sound_before goal later happening past h)

-- the id of a birth was ready for it
pub birth_ready : (goal : Goal) (later : List Event) (id : List ℕ) (n : ℕ) (past : List Event)
    → is_sound goal (later ++ Birth id n ∷ past) ≡ true → Ready id past
birth_ready goal later id n past h = let parts = step_at goal later (Birth id n) past refl h in
    born_ready goal id n past parts.0 (sound_holds goal past parts.1)

ready_alone : (id : List ℕ) (past : List Event) → Ready id past → has_child id (unreaped_children past) ≡ false
ready_alone id past ready = falsely (has_child id (unreaped_children past)) (has_child id (kept_children past))
    (unreaped_kept (is_child_of id) past) ready.childless

pub birth_alone : (goal : Goal) (later : List Event) (id : List ℕ) (n : ℕ) (past : List Event)
    → is_sound goal (later ++ Birth id n ∷ past) ≡ true → has_no_unreaped_child id past ≡ true
birth_alone goal later id n past h =
    not_from (has_child id (unreaped_children past)) (ready_alone id past (birth_ready goal later id n past h))

pub birth_placed : (goal : Goal) (later : List Event) (id : List ℕ) (n : ℕ) (past : List Event)
    → is_sound goal (later ++ Birth id n ∷ past) ≡ true → has_startable_entry id past ≡ true
birth_placed goal later id n past h = (birth_ready goal later id n past h).placed

-- no id has two unreaped children
few_filtered : (p q : Child → Bool) (xs : List Child) → length (filter p (filter q xs)) ≤ length (filter p xs)
few_filtered p q [] = lit≤ tt
few_filtered p q (x ∷ xs) = grind (arith, few_filtered p q xs)

one_birth : (goal : Goal) (i : List ℕ) (n : ℕ) (past : List Event) (id : List ℕ) → Ready i past → length (filter
    (is_child_of id) (unreaped_children past)) ≤ 1
    → length (filter (is_child_of id) (unreaped_children (Birth i n ∷ past))) ≤ 1
one_birth goal i n past id ready before = at_id (same_id id i) refl where
  at_id : (b : Bool) → same_id id i ≡ b
      → length (cond b (newborn i n past ∷ filter (is_child_of id) (unreaped_children past))
      (filter (is_child_of id) (unreaped_children past))) ≤ 1
  at_id true same = rw (filter_none (is_child_of id) (unreaped_children past)
      (ap (λ x. has_child x (unreaped_children past)) (same_id-is id i same) ∙ ready_alone i past ready)) (lit≤ tt)
  at_id false differ = before

pub one_child : (goal : Goal) (past : List Event) → is_sound goal past ≡ true → (id : List ℕ)
    → length (filter (is_child_of id) (unreaped_children past)) ≤ 1
one_child goal past h = sound_ind goal (λ before. (id : List ℕ)
    → length (filter (is_child_of id) (unreaped_children before)) ≤ 1) (λ table distinct id. lit≤ tt) next past h where
      next : (happening : Event) (before : List Event) → may_come goal happening before ≡ true
          → is_sound goal before ≡ true
          → ((id : List ℕ) → length (filter (is_child_of id) (unreaped_children before)) ≤ 1) → (id : List ℕ)
          → length (filter (is_child_of id) (unreaped_children (happening ∷ before))) ≤ 1
      next happening before may sound one id = grind (arith, one_birth, born_ready, sound_holds, few_filtered)

pub one_child_at : (goal : Goal) (later past : List Event) (id : List ℕ) → is_sound goal (later ++ past) ≡ true
    → length (filter (is_child_of id) (unreaped_children past)) ≤ 1
one_child_at goal later past id h =
    at_moment goal (λ before. length (filter (is_child_of id) (unreaped_children before)) ≤ 1)
    (lit≤ tt) (λ before sound. one_child goal before sound id) later past h

pub birth_in_turn : (goal : Goal) (later : List Event) (id : List ℕ) (n : ℕ) (past : List Event)
    → is_sound goal (later ++ Birth id n ∷ past) ≡ true → is_in_turn id past ≡ true
birth_in_turn goal later id n past h = not_from (is_owed_before id past) (birth_ready goal later id n past h).ahead

pub birth_spared : (goal : Goal) (later : List Event) (id : List ℕ) (n : ℕ) (past : List Event)
    → is_sound goal (later ++ Birth id n ∷ past) ≡ true → no_unreaped_is_excluded past ≡ true
birth_spared goal later id n past h = grind (arith, unreaped_kept, birth_ready)
