-- The start found by the walk along the table: no open start comes after an owed entry because of it.
use Rattle.core_model.proofs.Words.{arith, ◌≡◌, refl, sym, ap, ◌∙◌, Bool, true, false, not, ◌&&◌, ◌||◌, cond, ℕ, List}
use Rattle.core_model.proofs.Words.{◌∷◌, zip, Option, Some, None, is_some, is_none, list_any, false≢true, and_parts}
use Rattle.core_model.proofs.Words.{and_from, or_left, or_right, Entry, Start, Stage, is_limited, starts_of, waited_of}
use Rattle.core_model.proofs.Words.{same_id-from, both_ways, may_of, Step, Order, SlotState, allows, after_order}
use Rattle.core_model.proofs.Words.{is_record_of, are_distinct, with_changed, IsInOrder, is_listed, others}
use Rattle.core_model.proofs.Words.{rest_distinct, unchanged, or_else, is_wanted_record, is_owed_record, limited_step}
use Rattle.core_model.proofs.Words.{start_step, start_along, is_started, is_start_allowed, are_starts_along}
use Rattle.respawn_limit.specs.Window.{is_held}
use Rattle.trace_events.specs.declared.steps.Step.TheVariants.{Hold}

-- the first start found is for a wanted entry, and no entry before it is owed
pub record IsFound (now : Stage) (e : Entry) (slot : SlotState) (id : List ℕ) : Type 0 where
  pub own : e.id ≡ id
  pub wanted : is_wanted_record now e slot ≡ true

found_start : (now : Stage) (time : ℕ) (e : Entry) (slot : SlotState) (id : List ℕ)
    → start_step now time e slot ≡ Some (Order id Start) → IsFound now e slot id
found_start now time e slot id is = can (is_wanted_record now e slot) (is_none slot.child) (is_none slot.order) refl is
  where
    limited : (b h a : Bool) → cond b (cond h None (Some (cond a (Order e.id Start) (Hold e.id))))
        (Some (Order e.id Start)) ≡ Some (Order id Start) → e.id ≡ id
    limited true true a is = absurd (cc)
    limited true false true is = cc
    limited true false false is = absurd (cc)
    limited false h a is = cc

    can : (w n f : Bool) → is_wanted_record now e slot ≡ w
        → cond (w && n && f) (limited_step time e slot) None ≡ Some (Order id Start) → IsFound now e slot id
    can true true true wanted is = record {
      own = limited (is_limited e.act) (is_held slot.limiter.held time) (allows (may_of slot.limiter time)) is;
      wanted = wanted;
    }
    can true true false wanted is = absurd (cc)
    can true false f wanted is = absurd (cc)
    can false n f wanted is = absurd (cc)

found_own : (id : List ℕ) (e : Entry) (slot : SlotState) → slot.id ≡ e.id → e.id ≡ id → is_record_of id slot ≡ true
found_own id e slot own same = same_id-from id slot.id (sym (own ∙ same))

found_listed : (now : Stage) (time : ℕ) (id : List ℕ) (table : List Entry) (slots : List SlotState)
    → IsInOrder table slots → start_along now time (zip table slots) ≡ Some (Order id Start) → is_listed id slots ≡ true
found_listed now time id (e ∷ table) (slot ∷ slots) order is =
    at (start_step now time e slot) refl is (found_listed now time id table slots order.2)
  where
    behind : (b : Bool) → cond b None (start_along now time (zip table slots)) ≡ Some (Order id Start)
        → start_along now time (zip table slots) ≡ Some (Order id Start)
    behind true is = absurd (cc)
    behind false is = is

    at : (o : Option Step) → start_step now time e slot ≡ o → or_else o (cond (is_owed_record now e slot) None
        (start_along now time (zip table slots))) ≡ Some (Order id Start) → (start_along now time (zip table slots)
        ≡ Some (Order id Start) → is_listed id slots ≡ true) → is_listed id (slot ∷ slots) ≡ true
    at (Some step) here is rest = or_left (is_record_of id slot) (is_listed id slots)
        (found_own id e slot order.0 (found_start now time e slot id (here ∙ is)).own)
    at None here is rest =
        or_right (is_record_of id slot) (is_listed id slots) (rest (behind (is_owed_record now e slot) is))
found_listed now time id table slots order is = grind arith

owed_started : (w i s z y n a : Bool) → z ≡ true → cond (w && (i || s || z)) n a ≡ true
    → cond (w && (i || true || y)) n a ≡ true
owed_started false i s z y n a wanted h = h
owed_started true true s z y n a wanted h = h
owed_started true false true z y n a wanted h = h
owed_started true false false true y n a wanted h = h
owed_started true false false false y n a wanted h = absurd (false≢true wanted)

abbrev none_open : List Entry → List SlotState → Bool
none_open table rest = not (list_any (λ (q : Entry × SlotState). is_started q.1) (zip table rest))

abbrev started_in : ℕ → List ℕ → List SlotState → List SlotState
started_in time id slots = with_changed id (after_order Start time) slots

pub walk_kept : (now : Stage) (time : ℕ) (id : List ℕ) (table : List Entry) (slots : List SlotState)
    → IsInOrder table slots → are_distinct slots ≡ true → start_along now time (zip table slots) ≡ Some (Order id Start)
    → are_starts_along now (zip table slots) ≡ true
    → are_starts_along now (zip table (with_changed id (after_order Start time) slots)) ≡ true
walk_kept now time id (e ∷ table) (slot ∷ slots) order distinct is along = at (start_step now time e slot) refl is
    (λ found. walk_kept now time id table slots order.2 (rest_distinct slot slots distinct) found)
  where
    parts : (is_start_allowed now e slot ≡ true)
        × (cond (is_owed_record now e slot) (none_open table slots) (are_starts_along now (zip table slots)) ≡ true)
    parts = and_parts (is_start_allowed now e slot)
        (cond (is_owed_record now e slot) (none_open table slots) (are_starts_along now (zip table slots))) along

    -- the entry itself
    first : IsFound now e slot id → are_starts_along now ((e, after_order Start time slot) ∷ zip table slots) ≡ true
    first found = and_from (starts_of e now) (cond (is_owed_record now e (after_order Start time slot))
        (none_open table slots) (are_starts_along now (zip table slots)))
        (starts (starts_of e now) _ found.wanted)
        (owed_started (waited_of e) (is_some slot.child) (is_started slot) (is_wanted_record now e slot)
        (is_wanted_record now e (after_order Start time slot)) (none_open table slots)
        (are_starts_along now (zip table slots)) found.wanted parts.1)
      where
        starts : (s w : Bool) → (s && w) ≡ true → s ≡ true
        starts true w h = refl
        starts false w h = absurd (false≢true h)

    here : IsFound now e slot id
        → are_starts_along now (zip (e ∷ table) (with_changed id (after_order Start time) (slot ∷ slots))) ≡ true
    here found =
        let own : is_record_of id slot ≡ true = found_own id e slot order.0 found.own in
        let same : started_in time id slots ≡ slots =
        unchanged id (after_order Start time) slots (others id slot slots distinct own) in
        ap (λ rest. are_starts_along now
        ((e, cond (is_record_of id slot) (after_order Start time slot) slot) ∷ zip table rest)) same ∙ ap
        (λ b. are_starts_along now ((e, cond b (after_order Start time slot) slot) ∷ zip table slots)) own ∙ first found

    -- an entry before it is not owed, and its record is unchanged
    other : is_listed id slots ≡ true → (b : Bool) → is_record_of id slot ≡ b → b ≡ false
    other there true own = both_ways (is_listed id slots) there (others id slot slots distinct own)
    other there false own = refl

    behind : start_along now time (zip table slots) ≡ Some (Order id Start) → is_owed_record now e slot ≡ false
        → are_starts_along now (zip table (started_in time id slots)) ≡ true
        → are_starts_along now (zip (e ∷ table) (with_changed id (after_order Start time) (slot ∷ slots))) ≡ true
    behind is free rest =
        let apart : is_record_of id slot ≡ false =
        other (found_listed now time id table slots order.2 is) (is_record_of id slot) refl in
        ap (λ b. are_starts_along now
        ((e, cond b (after_order Start time slot) slot) ∷ zip table (started_in time id slots))) apart
        ∙ and_from (is_start_allowed now e slot) (cond (is_owed_record now e slot) (none_open table (started_in time id
        slots)) (are_starts_along now (zip table (started_in time id slots)))) parts.0 (ap (λ b. cond b (none_open table
        (started_in time id slots)) (are_starts_along now (zip table (started_in time id slots)))) free ∙ rest)

    by_owed : (b : Bool) → is_owed_record now e slot ≡ b → cond b None (start_along now time (zip table slots))
        ≡ Some (Order id Start) → (start_along now time (zip table slots) ≡ Some (Order id Start) → are_starts_along now
        (zip table slots) ≡ true → are_starts_along now (zip table (started_in time id slots)) ≡ true)
        → are_starts_along now (zip (e ∷ table) (with_changed id (after_order Start time) (slot ∷ slots))) ≡ true
    by_owed true owed is rest = absurd (cc)
    by_owed false owed is rest = behind is owed (rest is
        (sym (ap (λ b. cond b (none_open table slots) (are_starts_along now (zip table slots))) owed) ∙ parts.1))

    at : (o : Option Step) → start_step now time e slot ≡ o → or_else o
        (cond (is_owed_record now e slot) None (start_along now time (zip table slots))) ≡ Some (Order id Start)
        → (start_along now time (zip table slots) ≡ Some (Order id Start) → are_starts_along now (zip table slots)
        ≡ true → are_starts_along now (zip table (started_in time id slots)) ≡ true)
        → are_starts_along now (zip (e ∷ table) (with_changed id (after_order Start time) (slot ∷ slots))) ≡ true
    at (Some step) step_is is rest = here (found_start now time e slot id (step_is ∙ is))
    at None step_is is rest = by_owed (is_owed_record now e slot) refl is rest
walk_kept now time id table slots order distinct is along = grind arith
