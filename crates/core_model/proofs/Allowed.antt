-- What the state alone implies for the step that is decided: an order may be given, a hold has a record, and any other
-- step decreases the work left.
use Rattle.core_model.proofs.Words.{◌≡◌, refl, sym, ◌∙◌, ap, cond, ℕ, Bool, true, false, not, ◌&&◌, ◌||◌, List, [], ◌∷◌}
use Rattle.core_model.proofs.Words.{zip, nat_lt, Option, Some, None, arith, list_any, false≢true, and_parts, and_from}
use Rattle.core_model.proofs.Words.{not-true, nat_tests, Entry, Stage, OrderKind, Term, Kill, same_id, same_id-is}
use Rattle.core_model.proofs.Words.{same_id-self, same_id-from, any_less, both_ways, or_either, may_of, Step, Order}
use Rattle.core_model.proofs.Words.{Stop, SlotState, is_limited_record, IsInOrder, allows, can_be_asked, is_record_of}
use Rattle.core_model.proofs.Words.{are_distinct, record_by_id, can_ask_of, can_ask, has_record_of, contains_kind}
use Rattle.core_model.proofs.Words.{contains_letter, first_pending_step, may_follow, CoreState, stages_left}
use Rattle.core_model.proofs.Words.{enters_left, unheld}
use Rattle.core_model.proofs.Words.{or_else, or_idle, wished_step, stop_step, stop_among, is_owed_record, start_step}
use Rattle.core_model.proofs.Words.{start_along, stage_step, settle_step, look_among, calm_step, work_step, decide_in}
use Rattle.core_model.proofs.Words.{decide}
use Rattle.trace_events.specs.declared.steps.Step.TheVariants.{Enter, Call, Power, Hold, Settle}

-- some record of the id passes
abbrev pub has_with : List ℕ → (SlotState → Bool) → List SlotState → Bool
has_with id p slots = list_any (λ (slot : SlotState). is_record_of id slot && p slot) slots

-- an order may be given for the record now, and a signal is the next one for its stop
abbrev pub is_next : OrderKind → Option Stop → Bool
is_next Term stop = may_follow Term stop
is_next Kill stop = may_follow Kill stop
is_next _ stop = true

abbrev pub is_askable : OrderKind → ℕ → SlotState → Bool
is_askable ask now slot = can_be_asked ask now slot && is_next ask slot.stop

-- the entry is not held, and the respawn limit applies to it and does not allow a start
abbrev pub is_holdable : ℕ → SlotState → Bool
is_holdable now slot = unheld now slot && is_limited_record slot && not (allows (may_of slot.limiter now))

module _ (c : CoreState) where
  -- the state backs a step: an order has a record for which it may be given, a hold has one that may be held, a stage
  -- that is entered is a later one, a level is announced once, and only a pending power event or letter is carried out
  abbrev pub is_backed : List SlotState → Option Step → Bool
  is_backed slots (Some (Order id ask)) = has_with id (is_askable ask c.fields.time) slots
  is_backed slots (Some (Hold id)) = has_with id (is_holdable c.fields.time) slots
  is_backed slots (Some (Enter next grace)) = nat_lt (stages_left (Some next)) (enters_left c)
  is_backed slots (Some (Settle level)) = not c.fields.announced
  is_backed slots (Some (Power kind)) = contains_kind kind c.fields.pending
  is_backed slots (Some (Call letter)) = contains_letter letter c.fields.pending
  is_backed slots _ = true

  backed_or : (slots : List SlotState) (a b : Option Step) → is_backed slots a ≡ true → is_backed slots b ≡ true
      → is_backed slots (or_else a b) ≡ true
  backed_or slots a b ha hb = grind arith

  -- a step that the later records back is backed by all
  backed_behind : (slot : SlotState) (slots : List SlotState) (o : Option Step) → is_backed slots o ≡ true
      → is_backed (slot ∷ slots) o ≡ true
  backed_behind slot slots o h = grind arith

  backed_if : (slots : List SlotState) (b : Bool) (o : Option Step) → is_backed slots o ≡ true
      → is_backed slots (cond b o None) ≡ true
  backed_if slots true o h = h
  backed_if slots false o h = refl

  backed_unless : (slots : List SlotState) (b : Bool) (o : Option Step) → is_backed slots o ≡ true
      → is_backed slots (cond b None o) ≡ true
  backed_unless slots true o h = refl
  backed_unless slots false o h = h

  -- the requests: a stage for a requested level, and pending power events and letters
  news_backed : (slots : List SlotState) → is_backed slots (first_pending_step c.fields.pending) ≡ true
  news_backed slots = grind arith

  wished_backed : (slots : List SlotState) (now : Stage) → is_backed slots (wished_step now c) ≡ true
  wished_backed slots now = grind (arith, nat_tests, backed_or, backed_if, news_backed)

  -- the next stage, and the announcement
  stage_backed : (slots : List SlotState) (now : Stage) → c.fields.stage ≡ Some now
      → is_backed slots (stage_step now c.fields.goal c.table c.slots) ≡ true
  stage_backed slots now is = grind arith

  settle_backed : (slots : List SlotState) (now : Stage)
      → is_backed slots (settle_step now c.fields.announced c.fields.time c.table c.slots) ≡ true
  settle_backed slots now = grind arith

  -- a signal is for a child for which no other order is open
  stop_backed : (slot : SlotState) (slots : List SlotState)
      → is_backed (slot ∷ slots) (stop_step c.fields.grace c.fields.time slot) ≡ true
  stop_backed slot slots = grind (arith, same_id-self, backed_if)

  stops_backed : (slots : List SlotState) → is_backed slots (stop_among c.fields.grace c.fields.time slots) ≡ true
  stops_backed [] = refl
  stops_backed (slot ∷ slots) = backed_or (slot ∷ slots) (stop_step c.fields.grace c.fields.time slot)
      (stop_among c.fields.grace c.fields.time slots) (stop_backed slot slots)
      (backed_behind slot slots (stop_among c.fields.grace c.fields.time slots) (stops_backed slots))

  -- a start or a hold is for an entry whose record has no child, no order and no hold
  start_backed : (now : Stage) (e : Entry) (slot : SlotState) (slots : List SlotState) → slot.id ≡ e.id
      → slot.table_act ≡ Some e.act → is_backed (slot ∷ slots) (start_step now c.fields.time e slot) ≡ true
  start_backed now e slot slots own act = grind (arith, same_id-from)

  starts_backed : (now : Stage) (table : List Entry) (slots : List SlotState) → IsInOrder table slots
      → is_backed slots (start_along now c.fields.time (zip table slots)) ≡ true
  starts_backed now (e ∷ table) (slot ∷ slots) h = backed_or (slot ∷ slots) (start_step now c.fields.time e slot)
      (cond (is_owed_record now e slot) None (start_along now c.fields.time (zip table slots)))
      (start_backed now e slot slots h.0 h.1)
      (backed_unless (slot ∷ slots) (is_owed_record now e slot) (start_along now c.fields.time (zip table slots))
      (backed_behind slot slots (start_along now c.fields.time (zip table slots)) (starts_backed now table slots h.2)))
  starts_backed now table slots h = grind arith

  -- a look is for a child for which no other order is open
  looks_backed : (slots : List SlotState) → is_backed slots (look_among slots) ≡ true
  looks_backed [] = grind (arith, backed_behind, same_id-self)
  looks_backed (slot ∷ slots) = grind (arith, looks_backed slots, backed_behind, same_id-self)

  -- the state backs the step that it decides on
  module _ (order : IsInOrder c.table c.slots) where
    calm_backed : (now : Stage) → c.fields.stage ≡ Some now → is_backed c.slots (calm_step now c) ≡ true
    calm_backed now is = grind (arith, backed_or, starts_backed, stage_backed, settle_backed)

    work_backed : (now : Stage) → c.fields.stage ≡ Some now → is_backed c.slots (work_step now c) ≡ true
    work_backed now is = grind (arith, backed_unless, backed_or, stops_backed, calm_backed)

    idle_backed : (o : Option Step) → is_backed c.slots o ≡ true → is_backed c.slots (Some (or_idle o)) ≡ true
    idle_backed o h = grind arith

    decided_in : (o : Option Stage) → c.fields.stage ≡ o → is_backed c.slots (Some (decide_in o c)) ≡ true
    decided_in o is =
        grind (arith, idle_backed, backed_if, nat_tests, backed_or, wished_backed, work_backed, looks_backed)

    pub decided : (s : Step) → decide c ≡ s → is_backed c.slots (Some s) ≡ true
    decided s is = sym (ap (λ s. is_backed c.slots (Some s)) is) ∙ decided_in c.fields.stage refl

-- an id for which a record passes has a record, and only one
found_has : (id : List ℕ) (p : SlotState → Bool) (slots : List SlotState) → has_with id p slots ≡ true
    → has_record_of id slots ≡ true
found_has id p [] h = grind arith
found_has id p (slot ∷ slots) h = grind (arith, found_has id p slots)

found_asked : (id : List ℕ) (ask : OrderKind) (now : ℕ) (slots : List SlotState) → are_distinct slots ≡ true
    → has_with id (can_be_asked ask now) slots ≡ true → can_ask id ask now slots ≡ true
found_asked id ask now [] distinct h = absurd (false≢true h)
found_asked id ask now (slot ∷ slots) distinct h =
    at (is_record_of id slot) refl h (found_asked id ask now slots parts.1)
  where
    parts : (not (list_any (is_record_of slot.id) slots) ≡ true) × (are_distinct slots ≡ true)
    parts = and_parts (not (list_any (is_record_of slot.id) slots)) (are_distinct slots) distinct

    -- no later record has the id of the first
    none : is_record_of id slot ≡ true → has_with id (can_be_asked ask now) slots ≡ true
        → can_be_asked ask now slot ≡ true
    none own more = both_ways (list_any (is_record_of slot.id) slots) (any_less (λ (s : SlotState). is_record_of id s
        && can_be_asked ask now s) (is_record_of slot.id) (λ s both. ap (λ i. same_id i s.id)
        (sym (same_id-is id slot.id own)) ∙ (and_parts (is_record_of id s) (can_be_asked ask now s) both).0) slots more)
        (not-true (list_any (is_record_of slot.id) slots) parts.0)

    at : (b : Bool) → is_record_of id slot ≡ b → (b && can_be_asked ask now slot || has_with id (can_be_asked ask now)
        slots) ≡ true → (has_with id (can_be_asked ask now) slots ≡ true → can_ask id ask now slots ≡ true)
        → can_ask_of ask now (cond b (Some slot) (record_by_id id slots)) ≡ true
    at true own h later =
        or_either (can_be_asked ask now slot) (has_with id (can_be_asked ask now) slots) h (λ here. here) (none own)
    at false other h later = later h

-- an order may be given for a record of the id, and a hold has one
pub has_asked : (id : List ℕ) (ask : OrderKind) (now : ℕ) (slots : List SlotState)
    → has_with id (is_askable ask now) slots ≡ true → has_with id (can_be_asked ask now) slots ≡ true
has_asked id ask now slots h = any_less (λ (s : SlotState). is_record_of id s && is_askable ask now s)
    (λ (s : SlotState). is_record_of id s && can_be_asked ask now s)
    (λ s both. let parts = and_parts (is_record_of id s) (is_askable ask now s) both in and_from (is_record_of id s)
    (can_be_asked ask now s) parts.0 (and_parts (can_be_asked ask now s) (is_next ask s.stop) parts.1).0) slots h

pub has_unheld : (id : List ℕ) (now : ℕ) (slots : List SlotState) → has_with id (is_holdable now) slots ≡ true
    → has_with id (unheld now) slots ≡ true
has_unheld id now slots h = grind (arith, any_less)

-- an order that is decided may be given, and a hold that is decided has a record
pub decide_allowed : (c : CoreState) → IsInOrder c.table c.slots → are_distinct c.slots ≡ true
    → (id : List ℕ) (ask : OrderKind) → decide c ≡ Order id ask → can_ask id ask c.fields.time c.slots ≡ true
decide_allowed c order distinct id ask is = found_asked id ask c.fields.time c.slots distinct
    (has_asked id ask c.fields.time c.slots (decided c order (Order id ask) is))

pub decide_holds : (c : CoreState) → IsInOrder c.table c.slots → (id : List ℕ) → decide c ≡ Hold id
    → has_record_of id c.slots ≡ true
decide_holds c order id is = found_has id (is_holdable c.fields.time) c.slots (decided c order (Hold id) is)
