-- Signals are due only to excluded children: SIGTERM if none was sent yet, SIGKILL if the grace period has passed since
-- SIGTERM.
use Rattle.level_core.proofs.Words.{◌≡◌, refl, sym, ℕ, ◌+◌, Bool, false, nat_le, List, [], ◌∷◌, Option, Some, None}
use Rattle.level_core.proofs.Words.{is_some, arith, list_any, Stage, SlotState, is_stop_due, is_termed}
use Rattle.level_core.proofs.Words.{is_termed_before, IsFirstTermed, signal_step, stop_among, has_excluded, stands}
use Rattle.level_core.proofs.Words.{calm_step, work_step, CoreState, is_past}
use Rattle.child_table.specs.declared.children.Stop.{Stop}

module _ (grace now : ℕ) where
  -- if no record passes one of two tests, and no signal is due to a record that passes neither, no signal is due
  none_among : (p q : Option Stop → Bool)
      → ((id : List ℕ) (stop : Option Stop) → p stop ≡ false → q stop ≡ false → signal_step grace now id stop ≡ None)
      → (slots : List SlotState) → list_any (λ (slot : SlotState). p slot.stop) slots ≡ false
      → list_any (λ (slot : SlotState). q slot.stop) slots ≡ false → stop_among grace now slots ≡ None
  none_among p q none [] ps qs = grind arith
  none_among p q none (slot ∷ slots) ps qs = grind (arith, none_among p q none slots)

  no_stop : (id : List ℕ) (stop : Option Stop) → is_some stop ≡ false → is_some stop ≡ false
      → signal_step grace now id stop ≡ None
  no_stop id stop h k = grind arith

  no_term : (id : List ℕ) (stop : Option Stop) → is_stop_due stop ≡ false → is_termed stop ≡ false
      → signal_step grace now id stop ≡ None
  no_term id stop h k = grind arith

  early : (first : ℕ) → nat_le (first + grace) now ≡ false → (id : List ℕ) (stop : Option Stop)
      → is_stop_due stop ≡ false → is_termed_before first stop ≡ false → signal_step grace now id stop ≡ None
  early first short id stop h k = grind arith

  -- no signal is due if no SIGTERM is, and the grace period of the first SIGTERM has not passed
  pub none_near : (slots : List SlotState) (first : Option ℕ) → IsFirstTermed slots first
      → list_any (λ (slot : SlotState). is_stop_due slot.stop) slots ≡ false → is_past grace now first ≡ false
      → stop_among grace now slots ≡ None
  none_near slots None is due past = none_among is_stop_due is_termed no_term slots due is
  none_near slots (Some first) is due past =
      none_among is_stop_due (is_termed_before first) (early first past) slots due is.1

-- so if no child is excluded, no signal is due
pub calm_work : (stage : Stage) (c : CoreState) → stands stage c ≡ false → has_excluded c.slots ≡ false
    → calm_step stage c ≡ work_step stage c
calm_work stage c still none = sym (rw (
  still,
  none_among c.fields.grace c.fields.time is_some is_some (no_stop c.fields.grace c.fields.time) c.slots none none,
  none,
) refl)
