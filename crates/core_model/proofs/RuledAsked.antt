-- The records still obey the rules after an order and after a hold.
use Rattle.core_model.proofs.Words.{◌≡◌, refl, sym, ap, ◌∙◌, Bool, true, false, not, ◌&&◌, ◌||◌, cond, ℕ, List, [], ◌∷◌}
use Rattle.core_model.proofs.Words.{map, zip, Option, Some, is_some, is_none, arith, list_any, false≢true, and_parts}
use Rattle.core_model.proofs.Words.{and_from, or_left, Entry, OrderKind, Start, Look, Term, Kill, Stage, both_ways}
use Rattle.core_model.proofs.Words.{may_of, with_start, with_hold, Order, SlotState, is_limited_record}
use Rattle.core_model.proofs.Words.{stays_called_record, allows, can_be_asked, after_order, after_hold, is_record_of}
use Rattle.core_model.proofs.Words.{changed, with_changed, id-after_order, kept_by_one, order_changed, act-after_order}
use Rattle.core_model.proofs.Words.{timely_changed, timely_order, timely_parts, has_excluded, decide, may_follow}
use Rattle.core_model.proofs.Words.{is_callable, is_started, are_starts_along, are_starts_in, are_starts_free}
use Rattle.core_model.proofs.Words.{is_limit_kept, is_unused, IsFit, CoreState, unheld}
use Rattle.trace_events.specs.declared.steps.Step.TheVariants.{Hold}
use Rattle.core_model.proofs.Kept.{rules_of}
use Rattle.core_model.proofs.Allowed.{is_askable, is_holdable, decided}
use Rattle.core_model.proofs.Each.{Each, each_less, each_both, each_changed, each_own, distinct_map}
use Rattle.core_model.proofs.Ruled.{IsPlaced, AreRuled, each_placed}
use Rattle.core_model.proofs.RuledLimits.{start_kept, hold_kept}
use Rattle.core_model.proofs.RuledStarts.{IsLess, less_same, less_busy, along_less, free_less}
use Rattle.core_model.proofs.RuledRecord.{IsRuled, stop_same, allowed_same, marks_parts, marks_from}

-- one record, for which an order may be given
module _ (stage : Option Stage) (table : List Entry) (now : ℕ) (slot : SlotState)
    (placed : IsPlaced stage table now slot) where
  look_ruled : is_some slot.child ≡ true → IsRuled stage table now (after_order Look now slot)
  look_ruled there =
      let marked = marks_parts slot placed.rules.marks in
      record {
        cause = placed.rules.cause;
        birth = placed.rules.birth;
        order = there;
        stop = stop_same slot.child stage table slot (after_order Look now slot) slot.stop refl placed.rules.stop;
        marks =
            marks_from (after_order Look now slot)
            (record { look = refl; missed = marked.missed; called = marked.called });
        limiter = placed.rules.limiter;
      }

  term_ruled : is_some slot.child ≡ true → may_follow Term slot.stop ≡ true
      → IsRuled stage table now (after_order Term now slot)
  term_ruled there follows = record {
    cause = placed.rules.cause;
    birth = placed.rules.birth;
    order = and_from (is_some slot.child) (may_follow Term slot.stop) there follows;
    stop = stop_same slot.child stage table slot (after_order Term now slot) slot.stop refl placed.rules.stop;
    marks = placed.rules.marks;
    limiter = placed.rules.limiter;
  }

  kill_ruled : is_some slot.child ≡ true → may_follow Kill slot.stop ≡ true
      → IsRuled stage table now (after_order Kill now slot)
  kill_ruled there follows = record {
    cause = placed.rules.cause;
    birth = placed.rules.birth;
    order = and_from (is_some slot.child) (may_follow Kill slot.stop) there follows;
    stop = stop_same slot.child stage table slot (after_order Kill now slot) slot.stop refl placed.rules.stop;
    marks = placed.rules.marks;
    limiter = placed.rules.limiter;
  }

  -- a call that a start ends or not is still a call of an entry that can be called
  call_less : (stays called callable : Bool) → (not called || callable) ≡ true
      → (not (stays && called) || callable) ≡ true
  call_less true called callable h = h
  call_less false called callable h = refl

  start_ruled : is_some slot.table_act ≡ true → is_none slot.child ≡ true
      → IsRuled stage table now (after_order Start now slot)
  start_ruled acts none =
      let marked = marks_parts slot placed.rules.marks in
      record {
        cause = placed.rules.cause;
        birth = placed.rules.birth;
        order = and_from (is_some slot.table_act) (is_none slot.child) acts none;
        stop = stop_same slot.child stage table slot (after_order Start now slot) slot.stop refl placed.rules.stop;
        marks = marks_from (after_order Start now slot) (record {
          look = marked.look;
          missed = marked.missed;
          called = call_less (stays_called_record slot) slot.called (is_callable slot.table_act) marked.called;
        });
        limiter = by (is_limited_record slot) placed.rules.limiter;
      }
    where
      by : (b : Bool) → cond b (is_limit_kept now slot.limiter) (is_unused slot.limiter) ≡ true
          → cond b (is_limit_kept now (cond b (with_start slot.limiter now) slot.limiter))
          (is_unused (cond b (with_start slot.limiter now) slot.limiter)) ≡ true
      by true h = start_kept now slot.limiter (timely_parts now slot placed.timely).0 h
      by false h = h

  three : (a b d e : Bool) → (a && b && d && e) ≡ true → (b ≡ true) × (d ≡ true)
  three true true true e h = (refl, refl)
  three true true false e h = absurd (false≢true h)
  three true false d e h = absurd (false≢true h)
  three false b d e h = absurd (false≢true h)

  asked_ruled : (ask : OrderKind) → is_askable ask now slot ≡ true → IsRuled stage table now (after_order ask now slot)
  asked_ruled Start h =
      let may = three (is_none slot.order) (is_some slot.table_act) (is_none slot.child) (not (is_limited_record slot)
      || allows (may_of slot.limiter now)) (and_parts (can_be_asked Start now slot) true h).0 in
      start_ruled may.0 may.1
  asked_ruled Look h = look_ruled
      (and_parts (is_none slot.order) (is_some slot.child) (and_parts (can_be_asked Look now slot) true h).0).1
  asked_ruled Term h =
      let parts = and_parts (can_be_asked Term now slot) (may_follow Term slot.stop) h in
      term_ruled (and_parts (is_none slot.order) (is_some slot.child) parts.0).1 parts.1
  asked_ruled Kill h =
      let parts = and_parts (can_be_asked Kill now slot) (may_follow Kill slot.stop) h in
      kill_ruled (and_parts (is_none slot.order) (is_some slot.child) parts.0).1 parts.1

  held_ruled : is_holdable now slot ≡ true → IsRuled stage table now (after_hold now slot)
  held_ruled h =
      let last = and_parts (unheld now slot && is_limited_record slot) (not (allows (may_of slot.limiter now))) h in
      let first = and_parts (unheld now slot) (is_limited_record slot) last.0 in
      record {
        cause = placed.rules.cause;
        birth = placed.rules.birth;
        order = allowed_same slot.order slot (after_hold now slot) refl refl refl placed.rules.order;
        stop = stop_same slot.child stage table slot (after_hold now slot) slot.stop refl placed.rules.stop;
        marks = placed.rules.marks;
        limiter = by (is_limited_record slot) first.1 first.0 last.1 placed.rules.limiter;
      }
    where
      by : (b : Bool) → b ≡ true → unheld now slot ≡ true → not (allows (may_of slot.limiter now)) ≡ true
          → cond b (is_limit_kept now slot.limiter) (is_unused slot.limiter) ≡ true
          → cond b (is_limit_kept now (with_hold slot.limiter now)) (is_unused (with_hold slot.limiter now)) ≡ true
      by true is free denied h = hold_kept now slot.limiter free denied h
      by false is free denied h = absurd (false≢true is)

-- all records, after the step that was decided
module _ (c : CoreState) (keeps : IsFit c) (id : List ℕ) where
  module _ (ask : OrderKind) (is : decide c ≡ Order id ask) where
    abbrev order : SlotState → SlotState
    order slot = changed id (after_order ask c.fields.time) slot

    abbrev IsAsked : SlotState → Type 0
    IsAsked slot = IsPlaced c.fields.stage c.table c.fields.time slot
        × (is_record_of id slot ≡ true → is_askable ask c.fields.time slot ≡ true)

    each_asked : Each IsAsked c.slots
    each_asked = each_both (IsPlaced c.fields.stage c.table c.fields.time) (λ s. is_record_of id s ≡ true
        → is_askable ask c.fields.time s ≡ true) c.slots (each_placed c keeps) (each_own id
        (is_askable ask c.fields.time) c.slots (rules_of c keeps).distinct (decided c keeps.in_order (Order id ask) is))

    pub order_ruled : are_starts_in c.fields.stage c.table (with_changed id (after_order ask c.fields.time) c.slots)
        ≡ true → are_starts_free (with_changed id (after_order ask c.fields.time) c.slots) ≡ true
        → AreRuled c.fields.stage c.table c.fields.time (with_changed id (after_order ask c.fields.time) c.slots)
    order_ruled starts free = record {
      each = each_changed IsAsked (IsRuled c.fields.stage c.table c.fields.time) id (after_order ask c.fields.time)
          (λ s own. own.0.rules)
          (λ s here own. asked_ruled c.fields.stage c.table c.fields.time s own.0 ask (own.1 here)) c.slots each_asked;
      in_order = order_changed id (after_order ask c.fields.time) (id-after_order ask c.fields.time)
          (act-after_order ask c.fields.time) c.table c.slots keeps.in_order;
      distinct = distinct_map order (kept_by_one (λ s. s.id) id (after_order ask c.fields.time)
          (id-after_order ask c.fields.time)) c.slots (rules_of c keeps).distinct;
      starts = starts;
      free = free;
      timely = timely_changed c.fields.time id (after_order ask c.fields.time)
          (λ s h. timely_order ask c.fields.time c.fields.time (omega arith) s h) c.slots (rules_of c keeps).timely;
    }

    order_stops : (slot : SlotState) → (after_order ask c.fields.time slot).stop ≡ slot.stop
    order_stops slot = grind arith

    stop_of : (slot : SlotState) (b : Bool)
        → is_some (cond b (after_order ask c.fields.time slot) slot).stop ≡ is_some slot.stop
    stop_of slot true = ap is_some (order_stops slot)
    stop_of slot false = refl

    stops_same : (slots : List SlotState) → has_excluded (map order slots) ≡ has_excluded slots
    stops_same [] = refl
    stops_same (slot ∷ slots) = λ i. stop_of slot (is_record_of id slot) i || stops_same slots i

    -- an order about a child
    module _ (there : (slot : SlotState) → is_askable ask c.fields.time slot ≡ true → is_some slot.child ≡ true)
        (plain : (slot : SlotState) → is_started (after_order ask c.fields.time slot) ≡ false) where
      order_less : (slot : SlotState) → IsAsked slot → (now : Stage) (e : Entry) (b : Bool) → is_record_of id slot ≡ b
          → IsLess now e slot (cond b (after_order ask c.fields.time slot) slot)
      order_less slot own now e true here = less_busy now e slot (after_order ask c.fields.time slot)
          (or_left (is_some slot.child) (is_started slot) (there slot (own.1 here))) (plain slot)
      order_less slot own now e false here = less_same now e slot

      started_less : (slot : SlotState) (b : Bool)
          → is_started (cond b (after_order ask c.fields.time slot) slot) ≡ true → is_started slot ≡ true
      started_less slot true h = both_ways (is_started (after_order ask c.fields.time slot)) h (plain slot)
      started_less slot false h = h

      pub child_ruled : (now : Stage) → c.fields.stage ≡ Some now
          → AreRuled c.fields.stage c.table c.fields.time (with_changed id (after_order ask c.fields.time) c.slots)
      child_ruled now in_stage = order_ruled
          (ap (λ s. are_starts_in s c.table (with_changed id (after_order ask c.fields.time) c.slots)) in_stage
          ∙ along_less now order c.table c.slots (each_less IsAsked (λ s. (e : Entry) → IsLess now e s (order s))
          (λ s own e. order_less s own now e (is_record_of id s) refl) c.slots each_asked)
          (sym (ap (λ s. are_starts_in s c.table c.slots) in_stage) ∙ (rules_of c keeps).starts))
          (free_less order c.slots (each_less IsAsked (λ s. is_started (order s) ≡ true → is_started s ≡ true)
          (λ s own. started_less s (is_record_of id s)) c.slots each_asked)
          (each_less IsAsked (λ s. is_some (order s).stop ≡ true → is_some s.stop ≡ true)
          (λ s own h. sym (stop_of s (is_record_of id s)) ∙ h) c.slots each_asked) (rules_of c keeps).free)

  -- a start, when no child is excluded
  pub start_all_ruled : decide c ≡ Order id Start → (now : Stage) → c.fields.stage ≡ Some now → has_excluded c.slots
      ≡ false → are_starts_along now (zip c.table (with_changed id (after_order Start c.fields.time) c.slots)) ≡ true
      → AreRuled c.fields.stage c.table c.fields.time (with_changed id (after_order Start c.fields.time) c.slots)
  start_all_ruled is now in_stage spared along = order_ruled Start is
      (ap (λ s. are_starts_in s c.table (with_changed id (after_order Start c.fields.time) c.slots)) in_stage ∙ along)
      (free (list_any is_started (with_changed id (after_order Start c.fields.time) c.slots))
      (has_excluded (with_changed id (after_order Start c.fields.time) c.slots)) (stops_same Start is c.slots ∙ spared))
    where
      free : (s x : Bool) → x ≡ false → (not s || not x) ≡ true
      free true false h = refl
      free true true h = absurd (false≢true (sym h))
      free false x h = refl

  -- a hold
  module _ (is : decide c ≡ Hold id) where
    abbrev hold : SlotState → SlotState
    hold slot = changed id (after_hold c.fields.time) slot

    abbrev IsHeld : SlotState → Type 0
    IsHeld slot = IsPlaced c.fields.stage c.table c.fields.time slot
        × (is_record_of id slot ≡ true → is_holdable c.fields.time slot ≡ true)

    each_held : Each IsHeld c.slots
    each_held = each_both (IsPlaced c.fields.stage c.table c.fields.time)
        (λ s. is_record_of id s ≡ true → is_holdable c.fields.time s ≡ true) c.slots (each_placed c keeps) (each_own id
        (is_holdable c.fields.time) c.slots (rules_of c keeps).distinct (decided c keeps.in_order (Hold id) is))

    hold_less : (slot : SlotState) (now : Stage) (e : Entry) (b : Bool)
        → IsLess now e slot (cond b (after_hold c.fields.time slot) slot)
    hold_less slot now e true = record { allowed = λ h. h; started = λ h. h; owed = λ h. h }
    hold_less slot now e false = less_same now e slot

    hold_started : (slot : SlotState) (b : Bool) → is_started (cond b (after_hold c.fields.time slot) slot) ≡ true
        → is_started slot ≡ true
    hold_started slot true h = h
    hold_started slot false h = h

    hold_stops : (slot : SlotState) (b : Bool) → is_some (cond b (after_hold c.fields.time slot) slot).stop ≡ true
        → is_some slot.stop ≡ true
    hold_stops slot true h = h
    hold_stops slot false h = h

    pub hold_ruled : (now : Stage) → c.fields.stage ≡ Some now
        → AreRuled c.fields.stage c.table c.fields.time (with_changed id (after_hold c.fields.time) c.slots)
    hold_ruled now in_stage = record {
      each = each_changed IsHeld (IsRuled c.fields.stage c.table c.fields.time) id (after_hold c.fields.time)
          (λ s own. own.0.rules)
          (λ s here own. held_ruled c.fields.stage c.table c.fields.time s own.0 (own.1 here)) c.slots each_held;
      in_order = order_changed id (after_hold c.fields.time) (λ s. refl) (λ s. refl) c.table c.slots keeps.in_order;
      distinct = distinct_map hold (kept_by_one (λ s. s.id) id (after_hold c.fields.time) (λ s. refl)) c.slots
          (rules_of c keeps).distinct;
      starts = ap (λ s. are_starts_in s c.table (with_changed id (after_hold c.fields.time) c.slots)) in_stage
          ∙ along_less now hold c.table c.slots (each_less IsHeld (λ s. (e : Entry) → IsLess now e s (hold s))
          (λ s own e. hold_less s now e (is_record_of id s)) c.slots each_held)
          (sym (ap (λ s. are_starts_in s c.table c.slots) in_stage) ∙ (rules_of c keeps).starts);
      free = free_less hold c.slots (each_less IsHeld (λ s. is_started (hold s) ≡ true → is_started s ≡ true) (λ s own.
          hold_started s (is_record_of id s)) c.slots each_held) (each_less IsHeld (λ s. is_some (hold s).stop ≡ true
          → is_some s.stop
          ≡ true) (λ s own. hold_stops s (is_record_of id s)) c.slots each_held) (rules_of c keeps).free;
      timely = timely_changed c.fields.time id (after_hold c.fields.time) (λ s h. h) c.slots (rules_of c keeps).timely;
    }
