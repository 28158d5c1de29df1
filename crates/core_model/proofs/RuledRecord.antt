-- What the rules say about one record, and on which parts of it they depend.
use Rattle.core_model.proofs.Words.{arith, ◌≡◌, sym, ap, ◌∙◌, true, false, not, ◌&&◌, ◌||◌, cond, ℕ, List, Option}
use Rattle.core_model.proofs.Words.{is_some, is_none, and_parts, and_from, Entry, OrderKind, Stage, KnownChild, Stop}
use Rattle.core_model.proofs.Words.{SlotState, is_busy, has_cause, is_birth_known, allows_order, is_order_allowed}
use Rattle.core_model.proofs.Words.{is_child_excluded, is_stop_judged, is_callable, may_be_signalled}
use Rattle.core_model.proofs.Words.{are_marks_consistent}
use Rattle.core_model.proofs.Words.{is_limiter_consistent}

pub record IsRuled (stage : Option Stage) (table : List Entry) (now : ℕ) (slot : SlotState) : Type 0 where
  pub cause : has_cause slot ≡ true
  pub birth : is_birth_known slot.child ≡ true
  pub order : is_order_allowed slot ≡ true
  pub stop : is_stop_judged stage table slot ≡ true
  pub marks : are_marks_consistent slot ≡ true
  pub limiter : is_limiter_consistent now slot ≡ true

-- whether a child is excluded depends on its id
pub excluded_same : (o : Option KnownChild) (stage : Option Stage) (table : List Entry) (before after : SlotState)
    → before.id ≡ after.id → is_child_excluded stage table before o ≡ is_child_excluded stage table after o
excluded_same o stage table before after same = grind arith

pub stop_same : (o : Option KnownChild) (stage : Option Stage) (table : List Entry) (before after : SlotState)
    (stop : Option Stop) → before.id ≡ after.id → cond (is_child_excluded stage table before o) (is_some stop)
    (is_none stop) ≡ true → cond (is_child_excluded stage table after o) (is_some stop) (is_none stop) ≡ true
stop_same o stage table before after stop same h =
    ap (λ b. cond b (is_some stop) (is_none stop)) (sym (excluded_same o stage table before after same)) ∙ h

-- whether an order is allowed depends on the action, the child and the stop
pub allowed_same : (order : Option OrderKind) (before after : SlotState) → before.table_act ≡ after.table_act
    → before.child ≡ after.child → before.stop ≡ after.stop → allows_order order before ≡ true
    → allows_order order after ≡ true
allowed_same order before after act child stop h = grind arith

-- the flags of a record, one by one
pub record IsMarked (slot : SlotState) : Type 0 where
  pub look : (not slot.look || is_some slot.child) ≡ true
  pub missed : (not slot.missed || may_be_signalled slot.stop) ≡ true
  pub called : (not slot.called || is_callable slot.table_act) ≡ true

pub marks_parts : (slot : SlotState) → are_marks_consistent slot ≡ true → IsMarked slot
marks_parts slot h =
    let parts = and_parts ((not slot.look || is_some slot.child) && (not slot.missed || may_be_signalled slot.stop))
    (not slot.called || is_callable slot.table_act) h in
    let first =
    and_parts (not slot.look || is_some slot.child) (not slot.missed || may_be_signalled slot.stop) parts.0 in
    record { look = first.0; missed = first.1; called = parts.1 }

pub marks_from : (slot : SlotState) → IsMarked slot → are_marks_consistent slot ≡ true
marks_from slot marked = and_from ((not slot.look || is_some slot.child) && (not slot.missed || may_be_signalled
    slot.stop)) (not slot.called || is_callable slot.table_act) (and_from (not slot.look || is_some slot.child)
    (not slot.missed || may_be_signalled slot.stop) marked.look marked.missed) marked.called

-- a look stays allowed if the child stays
pub calm_order : (order : Option OrderKind) (before after : SlotState) → is_busy order ≡ false
    → is_some before.child ≡ is_some after.child → allows_order order before ≡ true → allows_order order after ≡ true
calm_order order before after calm same h = grind arith

-- without a child there is no stop
pub stop_childless : (stage : Option Stage) (table : List Entry) (slot : SlotState)
    → is_stop_judged stage table slot ≡ true → (is_some slot.child || is_none slot.stop) ≡ true
stop_childless stage table slot h = grind arith
