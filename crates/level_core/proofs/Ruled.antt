-- Testing the rules along the records.
use Rattle.level_core.proofs.Words.{◌≡◌, ◌≤◌, ◌<◌, ◌+◌, refl, cond, ℕ, Bool, true, false, not, ◌||◌, List, [], ◌∷◌}
use Rattle.level_core.proofs.Words.{length, drop, get_or, zip, Some, None, slice_get, list_any, IsNonDecreasing, le-leb}
use Rattle.level_core.proofs.Words.{Entry, Stage, STARTS, SlotState, is_owed_record, is_started, is_start_allowed}
use Rattle.level_core.proofs.Words.{are_starts_along, is_hold_of, is_limit_kept, never_from_ordered, arith}
use Rattle.level_core.proofs.Words.{◌&&◌, Option, nat_le, list_all, and_parts, and_from, leb-true, CLOCK_LIMIT}
use Rattle.level_core.specs.Words.{is_timely, are_timely, does_record_obey, has_cause, is_birth_known, is_order_allowed}
use Rattle.level_core.specs.Words.{is_stop_judged, are_marks_consistent, is_limiter_consistent, do_fields_obey}
use Rattle.level_core.specs.Words.{is_level_wish_valid}
use Rattle.level_core.specs.Words.{is_goal_reached}
use Rattle.core_model.specs.declared.parts.CoreFields.{CoreFields}
use Rattle.trace_events.specs.Wishes.{in_run}
use Rattle.respawn_limit.specs.State.{LimiterState}
use Rattle.level_core.proofs.Pairs.{pair_at, no_pair_at, no_pair_past}

-- no start is open after an owed entry
abbrev pub starts_from : Bool → Stage → List (Entry × SlotState) → Bool
starts_from true stage ps = not (list_any (λ (q : Entry × SlotState). is_started q.1) ps)
starts_from false stage ps = are_starts_along stage ps

pub limit_kept : (now : ℕ) (limiter : LimiterState) → length limiter.starts ≤ STARTS → IsNonDecreasing limiter.starts
    → is_hold_of now limiter limiter.held ≡ is_limit_kept now limiter
limit_kept now limiter few ordered =
    rw (le-leb (length limiter.starts) STARTS few, never_from_ordered limiter.starts ordered) refl

none_left : (owed : Bool) (stage : Stage) → true ≡ starts_from owed stage []
none_left true stage = refl
none_left false stage = refl

refused : (owed : Bool) (stage : Stage) (e : Entry) (slot : SlotState) (ps : List (Entry × SlotState)) → cond owed
    (not (is_started slot)) (is_start_allowed stage e slot) ≡ false → false ≡ starts_from owed stage ((e, slot) ∷ ps)
refused true stage e slot ps fault = grind arith
refused false stage e slot ps fault = rw fault refl

in_turn : (owed : Bool) (stage : Stage) (e : Entry) (slot : SlotState) (ps : List (Entry × SlotState))
    → cond owed (not (is_started slot)) (is_start_allowed stage e slot) ≡ true
    → starts_from owed stage ((e, slot) ∷ ps) ≡ starts_from (owed || is_owed_record stage e slot) stage ps
in_turn true stage e slot ps pass = grind arith
in_turn false stage e slot ps pass = grind arith

module _ (stage : Stage) (table : List Entry) (slots : List SlotState) (i : ℕ) (owed : Bool)
    (so_far : are_starts_along stage (zip table slots) ≡ starts_from owed stage (drop i (zip table slots))) where
  pub starts_none : slice_get table i ≡ None → true ≡ are_starts_along stage (zip table slots)
  starts_none none = rw (so_far, no_pair_at table slots i none) (none_left owed stage)

  pub starts_past : length slots ≤ i → true ≡ are_starts_along stage (zip table slots)
  starts_past past = rw (so_far, no_pair_past table slots i past) (none_left owed stage)

  pub starts_fault : (e : Entry) (slot : SlotState) → slice_get table i ≡ Some e → i < length slots
      → slot ≡ get_or slots i slot → cond owed (not (is_started slot)) (is_start_allowed stage e slot) ≡ false
      → false ≡ are_starts_along stage (zip table slots)
  starts_fault e slot at h is fault = rw (so_far, pair_at table slots i e slot at h is)
      (refused owed stage e slot (drop (i + 1) (zip table slots)) fault)

  pub starts_pass : (e : Entry) (slot : SlotState) → slice_get table i ≡ Some e → i < length slots
      → slot ≡ get_or slots i slot → cond owed (not (is_started slot)) (is_start_allowed stage e slot) ≡ true
      → are_starts_along stage (zip table slots)
      ≡ starts_from (owed || is_owed_record stage e slot) stage (drop (i + 1) (zip table slots))
  starts_pass e slot at h is pass = rw (so_far, pair_at table slots i e slot at h is)
      (in_turn owed stage e slot (drop (i + 1) (zip table slots)) pass)

-- if the rules hold, no start or signal is later than now, nor than the clock's limit
pub each_timely : (stage : Option Stage) (table : List Entry) (now : ℕ) (slots : List SlotState)
    → list_all (does_record_obey stage table now) slots ≡ true → are_timely now slots ≡ true
each_timely stage table now [] kept = refl
each_timely stage table now (slot ∷ slots) kept =
    let parts =
    and_parts (does_record_obey stage table now slot) (list_all (does_record_obey stage table now) slots) kept in
    let own = and_parts (has_cause slot && is_birth_known slot.child && is_order_allowed slot
    && is_stop_judged stage table slot && are_marks_consistent slot
    && is_limiter_consistent now slot) (is_timely now slot) parts.0 in
    and_from (is_timely now slot) (are_timely now slots) own.1 (each_timely stage table now slots parts.1)

pub clock_kept : (fields : CoreFields) → do_fields_obey fields ≡ true → fields.time ≤ CLOCK_LIMIT
clock_kept fields kept =
    let third = and_parts (nat_le fields.time CLOCK_LIMIT && is_level_wish_valid fields.stage fields.level_wish
    && (not fields.announced || in_run fields.stage)) (is_goal_reached fields.stage fields.goal fields.booted) kept in
    let second = and_parts (nat_le fields.time CLOCK_LIMIT && is_level_wish_valid fields.stage fields.level_wish)
    (not fields.announced || in_run fields.stage) third.0 in
    leb-true fields.time CLOCK_LIMIT
    (and_parts (nat_le fields.time CLOCK_LIMIT) (is_level_wish_valid fields.stage fields.level_wish) second.0).0
