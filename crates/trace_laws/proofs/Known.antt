-- What init reads off the kept children can be read off the known children.
use Rattle.trace_laws.proofs.Words.{is_none, ◌≡◌, ◌≤◌, refl, ap, ℕ, Bool, true, false, not, ◌&&◌, ◌||◌, List, ◌∷◌}
use Rattle.trace_laws.proofs.Words.{filter, length, Option, Some, None, lit≤, ◌⊎◌, inl, inr, arith, list_any}
use Rattle.trace_laws.proofs.Words.{false≢true, and_parts, and_from, Entry, OrderKind, Start, Look, Term, Kill}
use Rattle.trace_laws.proofs.Words.{waited_of, is_distinct, NewTable, Birth, Told, Goal, Event, Child, is_child_of}
use Rattle.trace_laws.proofs.Words.{has_child}
use Rattle.trace_laws.proofs.Words.{open_of, is_quiet, newborn, unreaped_children, kept_children, known_children}
use Rattle.trace_laws.proofs.Words.{wanted_by, starts_now, is_order, is_asked, is_called, is_wanted, is_owed}
use Rattle.trace_laws.proofs.Words.{is_excluded, can_start, both_ways, same_tests, or_either, any_less, may_come}
use Rattle.trace_laws.proofs.Words.{is_sound}
use Rattle.trace_events.specs.declared.happenings.Happening.TheVariants.{Enter}
use Rattle.trace_events.specs.declared.steps.Step.TheVariants as step
use Rattle.trace_laws.proofs.Orders.{quiet_looks, known_kept, told_any, told_finds, told_same, told_other, same_has}
use Rattle.trace_laws.proofs.Dues.{due_facts}
use Rattle.trace_laws.proofs.Keeps.{born_ready, sound_holds, sound_ind, placed_spared}
use Rattle.trace_laws.proofs.Births.{one_child}
use Rattle.trace_laws.proofs.Settling.{same_any}
use Rattle.trace_laws.proofs.Told.{kept_known}

-- at a quiet point no Start is open
pub quiet_start : (id : List ℕ) (past : List Event) → is_quiet past ≡ true → is_order Start (open_of id past) ≡ false
quiet_start id past quiet = read (open_of id past) refl where
  read : (o : Option OrderKind) → open_of id past ≡ o → is_order Start o ≡ false
  read None is = refl
  read (Some Start) is = absurd (false≢true (quiet_looks id Start past quiet is))
  read (Some Look) is = refl
  read (Some Term) is = refl
  read (Some Kill) is = refl

-- at a quiet point the kept children of each id are its known ones
pub quiet_known : (goal : Goal) (past : List Event) → is_sound goal past ≡ true → is_quiet past ≡ true → (id : List ℕ)
    → filter (is_child_of id) (kept_children past) ≡ filter (is_child_of id) (known_children past)
quiet_known goal past sound quiet id = kept_known goal past sound id (quiet_start id past quiet)

-- an id without an open Start has a kept child exactly if it has a known one
pub has_known : (goal : Goal) (past : List Event) → is_sound goal past ≡ true → (id : List ℕ)
    → is_order Start (open_of id past) ≡ false → has_child id (kept_children past) ≡ has_child id (known_children past)
has_known goal past sound id free =
    same_has id (kept_children past) (known_children past) (kept_known goal past sound id free)

-- an id has a kept child or an open Start exactly if it has a known child or an open Start
pub busy_known : (goal : Goal) (past : List Event) → is_sound goal past ≡ true → (id : List ℕ)
    → (has_child id (kept_children past) || is_order Start (open_of id past))
    ≡ (has_child id (known_children past) || is_order Start (open_of id past))
busy_known goal past sound id = grind (arith, has_known)

-- so whether an entry is idle, wanted, owed, or can start may be read off the known children
pub idle_known_child : (goal : Goal) (past : List Event) → is_sound goal past ≡ true → (id : List ℕ)
    → (not (has_child id (kept_children past)) && not (is_order Start (open_of id past)))
    ≡ (not (has_child id (known_children past)) && not (is_order Start (open_of id past)))
idle_known_child goal past sound id = grind (arith, has_known)

pub wanted_known : (goal : Goal) (past : List Event) → is_sound goal past ≡ true → (e : Entry)
    → is_wanted e past ≡ (starts_now e past && wanted_by e.act (not (has_child e.id (known_children past))
    && not (is_order Start (open_of e.id past))) (not (is_asked e.id past)) (is_called e past))
wanted_known goal past sound e = ap (λ idle. starts_now e past
    && wanted_by e.act idle (not (is_asked e.id past)) (is_called e past)) (idle_known_child goal past sound e.id)

pub owed_known : (goal : Goal) (past : List Event) → is_sound goal past ≡ true → (e : Entry) → is_owed e past
    ≡ (waited_of e && (has_child e.id (known_children past) || is_order Start (open_of e.id past) || is_wanted e past))
owed_known goal past sound e = ap (λ busy. waited_of e && (busy || is_wanted e past)) (busy_known goal past sound e.id)

pub can_start_known : (goal : Goal) (past : List Event) → is_sound goal past ≡ true → (e : Entry)
    → can_start e past ≡ (is_wanted e past && not (has_child e.id (known_children past)) && is_none (open_of e.id past))
can_start_known goal past sound e = grind (arith, has_known)

-- an excluded child that is kept is known, because a child whose birth is not told is not excluded
pub excluded_told : (goal : Goal) (past : List Event) → is_sound goal past ≡ true → (q : Child → Bool)
    → list_any (λ child. is_excluded past child && q child) (kept_children past) ≡ true
    → list_any (λ child. is_excluded past child && q child) (known_children past) ≡ true
excluded_told goal past h = sound_ind goal (λ before. (q : Child → Bool) → list_any (λ child. is_excluded before child
    && q child) (kept_children before) ≡ true → list_any (λ child. is_excluded before child && q child)
    (known_children before) ≡ true) (λ table distinct q there. there) next past h where
      at_quiet : (before : List Event) → is_sound goal before ≡ true → is_quiet before ≡ true → (p : Child → Bool)
          → list_any p (kept_children before) ≡ true → list_any p (known_children before) ≡ true
      at_quiet before sound quiet p there =
          same_any p (kept_children before) (known_children before) (quiet_known goal before sound quiet) there

      next : (happening : Event) (before : List Event) → may_come goal happening before ≡ true
          → is_sound goal before ≡ true
          → ((q : Child → Bool) → list_any (λ child. is_excluded before child && q child) (kept_children before) ≡ true
          → list_any (λ child. is_excluded before child && q child) (known_children before) ≡ true) → (q : Child → Bool)
          → list_any (λ child. is_excluded (happening ∷ before) child && q child) (kept_children (happening ∷ before))
          ≡ true → list_any (λ child. is_excluded (happening ∷ before) child && q child)
          (known_children (happening ∷ before)) ≡ true
      next (NewTable table) before may sound rest q there = at_quiet before sound (and_parts (is_quiet before)
          (is_distinct table) may).0 (λ child. is_excluded (NewTable table ∷ before) child && q child) there
      next (Enter s grace) before may sound rest q there = elim (due_facts goal before (step.Enter s grace) may) [
        | inl quiet ↦ at_quiet before sound quiet (λ child. is_excluded (Enter s grace ∷ before) child && q child) there
        | inr dawn ↦ both_ways (list_any (λ (child : Child). true) (kept_children before))
            (any_less (λ child. is_excluded (Enter s grace ∷ before) child && q child) (λ child. true) (λ child _. refl)
            (kept_children before) there) ((sound_holds goal before sound).dawn dawn)
      ]
      next (Birth i n) before may sound rest q there = or_either (is_excluded before (newborn i n before)
          && q (newborn i n before))
          (list_any (λ child. is_excluded before child && q child) (kept_children before)) there
          (λ here. both_ways (is_excluded before (newborn i n before))
          (and_parts (is_excluded before (newborn i n before)) (q (newborn i n before)) here).0
          (placed_spared i n before (born_ready goal i n before may (sound_holds goal before sound)).placed)) (rest q)
      next (Told i) before may sound rest q there =
          told_finds excluded i (unreaped_children before) (known_children before)
          (read (told_any excluded i (unreaped_children before) (kept_children before) there)) where
            excluded : Child → Bool
            excluded child = is_excluded before child && q child

            others : Child → Bool
            others child = not (is_child_of i child) && q child

            swap : (child : Child) → (not (is_child_of i child) && excluded child) ≡ true
                → (is_excluded before child && others child) ≡ true
            swap child both =
                let outer = and_parts (not (is_child_of i child)) (excluded child) both in
                let inner = and_parts (is_excluded before child) (q child) outer.1 in
                and_from (is_excluded before child) (others child) inner.0
                (and_from (not (is_child_of i child)) (q child) outer.0 inner.1)

            back : (child : Child) → (is_excluded before child && others child) ≡ true
                → (not (is_child_of i child) && excluded child) ≡ true
            back child both =
                let outer = and_parts (is_excluded before child) (others child) both in
                let inner = and_parts (not (is_child_of i child)) (q child) outer.1 in
                and_from (not (is_child_of i child)) (excluded child) inner.0
                (and_from (is_excluded before child) (q child) outer.0 inner.1)

            read : (list_any (λ child. is_child_of i child && excluded child) (unreaped_children before) ≡ true)
                ⊎ (list_any (λ child. not (is_child_of i child) && excluded child) (kept_children before) ≡ true)
                → (list_any (λ child. is_child_of i child && excluded child) (unreaped_children before) ≡ true)
                ⊎ (list_any (λ child. not (is_child_of i child) && excluded child) (known_children before) ≡ true)
            read (inl own) = inl own
            read (inr other) =
                inr (any_less (λ child. is_excluded before child && others child) (λ child. not (is_child_of i child)
                && excluded child) back (known_children before)
                (rest others (any_less (λ child. not (is_child_of i child)
                && excluded child) (λ child. is_excluded before child && others child) swap
                (kept_children before) other)))
      next happening before may sound rest q there = rest q there

-- a kept child is excluded exactly if a known one is
pub excluded_known : (goal : Goal) (past : List Event) → is_sound goal past ≡ true
    → list_any (is_excluded past) (kept_children past) ≡ list_any (is_excluded past) (known_children past)
excluded_known goal past sound = same_tests (list_any (is_excluded past) (kept_children past))
    (list_any (is_excluded past) (known_children past)) (λ there. any_less all (is_excluded past)
    (λ child both. (and_parts (is_excluded past child) true both).0) (known_children past)
    (excluded_told goal past sound (λ child. true) (any_less (is_excluded past) all (λ child own. and_from
    (is_excluded past child) true own refl) (kept_children past) there))) (known_kept (is_excluded past) past) where
      all : Child → Bool
      all child = is_excluded past child && true

-- no id has two known children
pub known_single : (goal : Goal) (past : List Event) → is_sound goal past ≡ true → (id : List ℕ)
    → length (filter (is_child_of id) (known_children past)) ≤ 1
known_single goal past h = sound_ind goal (λ before. (id : List ℕ)
    → length (filter (is_child_of id) (known_children before)) ≤ 1) (λ table distinct id. lit≤ tt) next past h where
      next : (happening : Event) (before : List Event) → may_come goal happening before ≡ true
          → is_sound goal before ≡ true
          → ((id : List ℕ) → length (filter (is_child_of id) (known_children before)) ≤ 1) → (id : List ℕ)
          → length (filter (is_child_of id) (known_children (happening ∷ before))) ≤ 1
      next happening before may sound rest id = grind (arith, told_same, one_child, told_other)
