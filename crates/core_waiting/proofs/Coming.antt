-- Init's own steps end, and it is at rest afterwards.
use Rattle.core_waiting.proofs.Words.{◌≡◌, ◌≤◌, ◌<◌, refl, sym, ◌∙◌, ap, subst, ℕ, Bool, zero, suc, true, false, ◌||◌}
use Rattle.core_waiting.proofs.Words.{cond, List, [], ◌∷◌, ◌++◌, map, filter, None, is_none, arith, list_any, list_all}
use Rattle.core_waiting.proofs.Words.{option_map, false≢true, and_from, or_parts, false_from_ne_true, Entry, same_id}
use Rattle.core_waiting.proofs.Words.{same_id-self, find_none, any_filtered, ids_of, has_id, act_of, Goal, Step, Event}
use Rattle.core_waiting.proofs.Words.{table_of, has_child, known_children, wants_reexec, wants_reread, due, first}
use Rattle.core_waiting.proofs.Words.{removed_ids, is_rest, is_sound, left_apart, CoreState, decide, LastStatuses, Fits}
use Rattle.core_waiting.proofs.Words.{FitsExtendedTrace, record_of, records_of, with_step, fit_records, fit_table}
use Rattle.core_waiting.proofs.Words.{still, IsOwn}
use Rattle.core_waiting.proofs.Words.{table_own, decide_due, AtRest}
use Rattle.trace_laws.proofs.Runs.{first_due}
use Rattle.child_table.specs.State.{SlotState}
use Rattle.child_table.specs.Order.{IsInOrder}
use Rattle.core_model.specs.Steps.{after_step}
use Rattle.core_model.specs.Work.{work_left}
use Rattle.core_model.proofs.Reading.{Each}
use Rattle.core_model.proofs.Stepping.{fits_step}
use Rattle.core_model.proofs.Working.{decide_falls}
use Rattle.core_waiting.specs.Coming.{with_own_steps, after_init_steps}
use Rattle.core_waiting.proofs.Idle.{rest_unwished}

-- if the core fits, its records are in table order
unlisted : (lasts : LastStatuses) (past : List Event) (ids : List (List ℕ))
    → ((id : List ℕ) → list_any (same_id id) ids ≡ true → act_of id (table_of past) ≡ None)
    → list_all (λ (slot : SlotState). is_none slot.table_act) (map (record_of lasts past) ids) ≡ true
unlisted lasts past [] none = refl
unlisted lasts past (id ∷ ids) none = and_from (is_none (act_of id (table_of past)))
    (list_all (λ (slot : SlotState). is_none slot.table_act) (map (record_of lasts past) ids))
    (ap is_none (none id (ap (λ b. b || list_any (same_id id) ids) (same_id-self id))))
    (unlisted lasts past ids (λ x there. none x (later (same_id x id) (list_any (same_id x) ids) there))) where
      later : (a b : Bool) → b ≡ true → (a || b) ≡ true
      later true b h = refl
      later false b h = h

in_order_along : (lasts : LastStatuses) (past : List Event) (es : List Entry) (rest : List (List ℕ))
    → Each (IsOwn (table_of past)) es → list_all (λ (slot : SlotState). is_none slot.table_act)
    (map (record_of lasts past) rest) ≡ true → IsInOrder es (map (record_of lasts past) (ids_of es ++ rest))
in_order_along lasts past [] rest own none = none
in_order_along lasts past (e ∷ es) rest own none =
    (refl, ap (option_map (λ (x : Entry). x.act)) own.0, in_order_along lasts past es rest own.1 none)

records_in_order : (lasts : LastStatuses) (goal : Goal) (past : List Event) → is_sound goal past ≡ true
    → IsInOrder (table_of past) (records_of lasts past)
records_in_order lasts goal past sound = in_order_along lasts past (table_of past) (filter kept (removed_ids past))
    (table_own lasts goal past sound) (unlisted lasts past (filter kept (removed_ids past))
    (λ id there. none id (any_filtered (same_id id) kept (removed_ids past) there))) where
      kept : List ℕ → Bool
      kept id = has_child id (known_children past)

      none : (id : List ℕ) → list_any (same_id id) (removed_ids past) ≡ true → act_of id (table_of past) ≡ None
      none id there = ap (option_map (λ (x : Entry). x.act))
          (find_none (has_id id) (table_of past) (false_from_ne_true (list_any (has_id id) (table_of past))
          (λ listed. false≢true (sym (left_apart goal past sound id listed) ∙ there))))

module _ (goal : Goal) (past : List Event) (c : CoreState) (sound : is_sound goal past ≡ true) (fits : Fits c goal past)
  where
    due_now : decide c ≡ first (due goal past)
    due_now = decide_due goal past sound c fits

    in_order : IsInOrder c.table c.slots
    in_order = subst (IsInOrder c.table) (sym (fit_records c goal past fits)) (subst (λ table. IsInOrder table
        (records_of fits.lasts past)) (sym (fit_table c goal past fits)) (records_in_order fits.lasts goal past sound))

    -- a due step of init leaves less work, and the trace with it is sound and fits
    falls : is_rest (first (due goal past)) ≡ false → work_left (after_step (decide c) c) < work_left c
    falls busy = decide_falls c in_order (ap is_rest due_now ∙ busy)

    fits_next : FitsExtendedTrace c (after_step (decide c) c) goal past (with_step (first (due goal past)) past)
    fits_next = subst (λ s. FitsExtendedTrace c (after_step (decide c) c) goal past (with_step s past)) due_now
        (fits_step goal past c sound fits)

sound_next : (goal : Goal) (past : List Event) (made : Step) → first (due goal past) ≡ made → is_sound goal past ≡ true
    → is_sound goal (with_step made past) ≡ true
sound_next goal past made is sound = grind (arith, first_due)

-- so init comes to a rest
comes_in : (n : ℕ) (goal : Goal) (past : List Event) (c : CoreState) → is_sound goal past ≡ true → Fits c goal past
    → work_left c ≤ n → is_rest (first (due goal (with_own_steps goal n past))) ≡ true
comes_in zero goal past c sound fits enough = at (is_rest (first (due goal past))) refl where
  at : (b : Bool) → is_rest (first (due goal past)) ≡ b → b ≡ true
  at true is = refl
  at false is = absurd
      (let less : work_left (after_step (decide c) c) < work_left c = falls goal past c sound fits is in omega arith)
comes_in (suc n) goal past c sound fits enough = at (is_rest (first (due goal past))) refl
    (λ is. comes_in n goal (with_step (first (due goal past)) past) (after_step (decide c) c)
    (sound_next goal past (first (due goal past)) refl sound) (fits_next goal past c sound fits).0 (let less : work_left
    (after_step (decide c) c) < work_left c = falls goal past c sound fits is in omega arith)) where
      at : (b : Bool) → is_rest (first (due goal past)) ≡ b → (is_rest (first (due goal past)) ≡ false
          → is_rest (first (due goal (with_own_steps goal n (with_step (first (due goal past)) past)))) ≡ true)
          → is_rest (first (due goal (cond b past (with_own_steps goal n (with_step (first (due goal past)) past)))))
          ≡ true
      at true is later = is
      at false is later = later is

pub comes : (core : CoreState) (goal : Goal) (past : List Event) → is_sound goal past ≡ true → Fits core goal past
    → is_rest (first (due goal (with_own_steps goal (work_left core) past))) ≡ true
comes core goal past sound fits = comes_in (work_left core) goal past core sound fits (omega arith)

-- the state of init fits the trace with those steps, which is sound
pub steps_fit : (n : ℕ) (core : CoreState) (goal : Goal) (past : List Event) → is_sound goal past ≡ true
    → Fits core goal past → (is_sound goal (with_own_steps goal n past) ≡ true)
    × FitsExtendedTrace core (after_init_steps n core) goal past (with_own_steps goal n past)
steps_fit zero core goal past sound fits = (sound, still core goal past fits)
steps_fit (suc n) core goal past sound fits =
    let next = fits_next goal past core sound fits in
    let rest = steps_fit n (after_step (decide core) core) goal (with_step (first (due goal past)) past)
    (sound_next goal past (first (due goal past)) refl sound) next.0 in
    at (is_rest (first (due goal past))) (is_rest (decide core)) (ap is_rest (due_now goal past core sound fits))
    (rest.0, (rest.1.0, λ has. rest.1.1 (next.1 has))) where
      mid : List Event
      mid = with_step (first (due goal past)) past

      at : (b d : Bool) → d ≡ b → (is_sound goal (with_own_steps goal n mid) ≡ true)
          × FitsExtendedTrace core (after_init_steps n (after_step (decide core) core)) goal past
          (with_own_steps goal n mid)
          → (is_sound goal (cond b past (with_own_steps goal n mid)) ≡ true) × FitsExtendedTrace core (cond d core
          (after_init_steps n (after_step (decide core) core))) goal past (cond b past (with_own_steps goal n mid))
      at true true same later = (sound, still core goal past fits)
      at false false same later = later
      at true false same later = absurd (false≢true same)
      at false true same later = absurd (false≢true (sym same))

-- init's own steps do not change the two pending requests
reexec_next : (made : Step) (past : List Event) → wants_reexec (with_step made past) ≡ wants_reexec past
reexec_next made past = grind arith

reread_next : (made : Step) (past : List Event) → wants_reread (with_step made past) ≡ wants_reread past
reread_next made past = grind arith

wish_stays : (wants : List Event → Bool) → ((made : Step) (past : List Event) → wants (with_step made past)
    ≡ wants past) → (n : ℕ) (goal : Goal) (past : List Event) → wants (with_own_steps goal n past) ≡ wants past
wish_stays wants next zero goal past = refl
wish_stays wants next (suc n) goal past = at (is_rest (first (due goal past)))
    (wish_stays wants next n goal (with_step (first (due goal past)) past) ∙ next (first (due goal past)) past) where
      at : (b : Bool) → wants (with_own_steps goal n (with_step (first (due goal past)) past)) ≡ wants past
          → wants (cond b past (with_own_steps goal n (with_step (first (due goal past)) past))) ≡ wants past
      at true later = refl
      at false later = later

pub arrives : (core : CoreState) (goal : Goal) (past : List Event) → is_sound goal past ≡ true → Fits core goal past
    → (wants_reexec past || wants_reread past) ≡ false → AtRest goal (with_own_steps goal (work_left core) past)
arrives core goal past sound fits unwished =
    let none = or_parts (wants_reexec past) (wants_reread past) unwished in
    rest_unwished goal (with_own_steps goal (work_left core) past) (comes core goal past sound fits)
    (wish_stays wants_reexec reexec_next (work_left core) goal past ∙ none.0)
    (wish_stays wants_reread reread_next (work_left core) goal past ∙ none.1)
