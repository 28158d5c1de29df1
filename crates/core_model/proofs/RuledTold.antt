-- The records still obey the rules after an answer was told.
use Rattle.core_model.proofs.Words.{◌≡◌, refl, sym, ap, ◌∙◌, subst, Bool, true, false, not, cond, ℕ, List, [], ◌∷◌, zip}
use Rattle.core_model.proofs.Words.{Option, Some, None, is_some, is_none, Result, Ok, Err, arith, list_any, false≢true}
use Rattle.core_model.proofs.Words.{not-true, not_from_false, Entry, OrderKind, Start, Answer, Stage, any_filtered}
use Rattle.core_model.proofs.Words.{falsely, is_order, SlotState, after_answer, is_over, is_record_of, record_by_id}
use Rattle.core_model.proofs.Words.{order_of, order_in, changed, with_changed, without, refusal_of, ends_record}
use Rattle.core_model.proofs.Words.{IsInOrder, are_timely, id-after_answer, kept_by_one, over_none, order_told}
use Rattle.core_model.proofs.Words.{timely_told, is_started, are_starts_along, are_starts_in, IsFit, CoreState}
use Rattle.init_words.specs.declared.refusals.Refusal.{Refusal}
use Rattle.init_words.specs.declared.refusals.Refusal.TheVariants.{WrongAnswer}
use Rattle.child_table.specs.Lists.{after_answer_to}
use Rattle.core_model.proofs.Kept.{rules_of}
use Rattle.core_model.proofs.Allowed.{has_with}
use Rattle.core_model.proofs.Each.{Each, each_less, each_both, each_filter, each_changed, each_own, distinct_map}
use Rattle.core_model.proofs.Each.{distinct_filter}
use Rattle.core_model.proofs.Ruled.{IsPlaced, AreRuled, each_placed}
use Rattle.core_model.proofs.RuledStarts.{IsLess, less_same, less_busy, starts_less, free_less, free_filter}
use Rattle.core_model.proofs.RuledRecord.{IsRuled}
use Rattle.core_model.proofs.RuledAnswer.{is_answered, told_ruled, was_busy, begins_none}

order_over : (answer : Answer) (now : ℕ) (slot : SlotState) → (after_answer answer now slot).order ≡ None
order_over answer now slot = grind arith

-- a record that is found and passes is a record of the id that passes
pub found_with : (id : List ℕ) (p : SlotState → Bool) (slots : List SlotState) (slot : SlotState)
    → record_by_id id slots ≡ Some slot → p slot ≡ true → has_with id p slots ≡ true
found_with id p [] slot is h = grind arith
found_with id p (first ∷ slots) slot is h = grind (arith, found_with id p slots slot)

-- removing records without an entry does not change the pairs of entries and records
zip_without : (id : List ℕ) (table : List Entry) (slots : List SlotState) → IsInOrder table slots → Each
    (λ s. is_record_of id s ≡ true → is_none s.table_act ≡ true) slots → zip table (without id slots) ≡ zip table slots
zip_without id (e ∷ table) (slot ∷ slots) order none =
    at (is_record_of id slot) refl (zip_without id table slots order.2 none.1)
  where
    at : (b : Bool) → is_record_of id slot ≡ b → zip table (without id slots) ≡ zip table slots
        → zip (e ∷ table) (cond (not b) (slot ∷ without id slots) (without id slots)) ≡ (e, slot) ∷ zip table slots
    at true is rest = absurd (false≢true (ap is_none (sym order.1) ∙ none.0 is))
    at false is rest = ap (λ ps. (e, slot) ∷ ps) rest
zip_without id table slots order none = grind arith

abbrev verdict : Bool → Result (Unit {0}) Refusal
verdict b = cond b (Ok tt) (Err WrongAnswer)

module _ (c : CoreState) (keeps : IsFit c) (id : List ℕ) (answer : Answer) where
  abbrev next : SlotState → SlotState
  next slot = changed id (after_answer answer c.fields.time) slot

  abbrev IsAnswered : SlotState → Type 0
  IsAnswered slot = IsPlaced c.fields.stage c.table c.fields.time slot
      × (is_record_of id slot ≡ true → is_answered answer slot.order ≡ true)

  module _ (found : SlotState) (there : record_by_id id c.slots ≡ Some found)
      (answered : is_answered answer found.order ≡ true) where
    each_answered : Each IsAnswered c.slots
    each_answered = each_both (IsPlaced c.fields.stage c.table c.fields.time)
        (λ s. is_record_of id s ≡ true → is_answered answer s.order ≡ true) c.slots (each_placed c keeps)
        (each_own id (λ s. is_answered answer s.order) c.slots (rules_of c keeps).distinct
        (found_with id (λ s. is_answered answer s.order) c.slots found there answered))

    -- the record stays, without its order
    started_less : (slot : SlotState) (b : Bool)
        → is_started (cond b (after_answer answer c.fields.time slot) slot) ≡ true → is_started slot ≡ true
    started_less slot true h =
        absurd (false≢true (sym (ap (is_order Start) (order_over answer c.fields.time slot)) ∙ h))
    started_less slot false h = h

    stop_less : (slot : SlotState) → IsAnswered slot → (b : Bool)
        → is_some (cond b (after_answer answer c.fields.time slot) slot).stop ≡ true → is_some slot.stop ≡ true
    stop_less slot own true h = begins_none c.fields.stage c.table c.fields.time slot own.0 answer h
    stop_less slot own false h = h

    next_less : (slot : SlotState) → IsAnswered slot → (now : Stage) (e : Entry) (b : Bool) → is_record_of id slot ≡ b
        → IsLess now e slot (cond b (after_answer answer c.fields.time slot) slot)
    next_less slot own now e true is = less_busy now e slot (after_answer answer c.fields.time slot)
        (was_busy c.fields.stage c.table c.fields.time slot own.0 answer slot.order refl (own.1 is))
        (ap (is_order Start) (order_over answer c.fields.time slot))
    next_less slot own now e false is = less_same now e slot

    stays_ruled : is_over answer found ≡ false
        → AreRuled c.fields.stage c.table c.fields.time (with_changed id (after_answer answer c.fields.time) c.slots)
    stays_ruled stays = record {
      each = each_changed (λ s. IsAnswered s × (is_record_of id s ≡ true → not (is_over answer s) ≡ true))
          (IsRuled c.fields.stage c.table c.fields.time) id (after_answer answer c.fields.time)
          (λ s own. own.0.0.rules)
          (λ s is own. told_ruled c.fields.stage c.table c.fields.time s own.0.0 answer (own.0.1 is)
          (not-true (is_over answer s) (own.1 is))) c.slots
          (each_both IsAnswered (λ s. is_record_of id s ≡ true → not (is_over answer s) ≡ true) c.slots each_answered
          (each_own id (λ s. not (is_over answer s)) c.slots (rules_of c keeps).distinct
          (found_with id (λ s. not (is_over answer s)) c.slots found there (ap not stays))));
      in_order = subst (IsInOrder c.table) here (order_told id answer c.fields.time c.table c.slots keeps.in_order);
      distinct = distinct_map next (kept_by_one (λ s. s.id) id (after_answer answer c.fields.time)
          (λ s. id-after_answer answer c.fields.time s)) c.slots (rules_of c keeps).distinct;
      starts = starts_less c.fields.stage next c.table c.slots (each_less IsAnswered (λ s. is_started (next s) ≡ true
          → is_started s ≡ true) (λ s own. started_less s (is_record_of id s)) c.slots each_answered)
          (λ now. each_less IsAnswered (λ s. (e : Entry) → IsLess now e s (next s))
          (λ s own e. next_less s own now e (is_record_of id s) refl) c.slots each_answered) (rules_of c keeps).starts;
      free = free_less next c.slots (each_less IsAnswered (λ s. is_started (next s) ≡ true → is_started s ≡ true)
          (λ s own. started_less s (is_record_of id s)) c.slots each_answered)
          (each_less IsAnswered (λ s. is_some (next s).stop ≡ true → is_some s.stop ≡ true)
          (λ s own. stop_less s own (is_record_of id s)) c.slots each_answered) (rules_of c keeps).free;
      timely = subst (λ slots. are_timely c.fields.time slots ≡ true) here
          (timely_told id answer c.fields.time c.fields.time (omega arith) c.slots (rules_of c keeps).timely);
    } where
      here : after_answer_to id answer c.fields.time c.slots
          ≡ with_changed id (after_answer answer c.fields.time) c.slots
      here = ap (λ b. cond b (without id c.slots) (with_changed id (after_answer answer c.fields.time) c.slots))
          (ap (ends_record answer) there ∙ stays)

    -- the record of a child that ended is removed
    starts_without : is_over answer found ≡ true → (stage : Option Stage) → are_starts_in stage c.table c.slots ≡ true
        → are_starts_in stage c.table (without id c.slots) ≡ true
    starts_without over None none = not_from_false (list_any is_started (without id c.slots))
        (falsely (list_any is_started (without id c.slots)) (list_any is_started c.slots)
        (any_filtered is_started (λ s. not (is_record_of id s)) c.slots) (not-true (list_any is_started c.slots) none))
    starts_without over (Some now) along = ap (are_starts_along now) (zip_without id c.table c.slots keeps.in_order
        (each_own id (λ s. is_none s.table_act) c.slots (rules_of c keeps).distinct
        (found_with id (λ s. is_none s.table_act) c.slots found there (over_none answer found over)))) ∙ along

    goes_ruled : is_over answer found ≡ true → AreRuled c.fields.stage c.table c.fields.time (without id c.slots)
    goes_ruled over = record {
      each = each_filter (IsPlaced c.fields.stage c.table c.fields.time) (IsRuled c.fields.stage c.table c.fields.time)
          (λ s. not (is_record_of id s)) (λ s other own. own.rules) c.slots (each_placed c keeps);
      in_order = subst (IsInOrder c.table) here (order_told id answer c.fields.time c.table c.slots keeps.in_order);
      distinct = distinct_filter (λ s. not (is_record_of id s)) c.slots (rules_of c keeps).distinct;
      starts = starts_without over c.fields.stage (rules_of c keeps).starts;
      free = free_filter (λ s. not (is_record_of id s)) c.slots (rules_of c keeps).free;
      timely = subst (λ slots. are_timely c.fields.time slots ≡ true) here
          (timely_told id answer c.fields.time c.fields.time (omega arith) c.slots (rules_of c keeps).timely);
    } where
      here : after_answer_to id answer c.fields.time c.slots ≡ without id c.slots
      here = ap (λ b. cond b (without id c.slots) (with_changed id (after_answer answer c.fields.time) c.slots))
          (ap (ends_record answer) there ∙ over)

    found_ruled : AreRuled c.fields.stage c.table c.fields.time (after_answer_to id answer c.fields.time c.slots)
    found_ruled = subst (λ b. AreRuled c.fields.stage c.table c.fields.time
        (cond b (without id c.slots) (with_changed id (after_answer answer c.fields.time) c.slots)))
        (sym (ap (ends_record answer) there)) (at (is_over answer found) refl)
      where
        at : (b : Bool) → is_over answer found ≡ b → AreRuled c.fields.stage c.table c.fields.time
            (cond b (without id c.slots) (with_changed id (after_answer answer c.fields.time) c.slots))
        at true over = goes_ruled over
        at false stays = stays_ruled stays

  -- an answer that is accepted has a record
  taken : (o : Option OrderKind) → refusal_of o answer ≡ Ok tt → is_answered answer o ≡ true
  taken o is = grind arith

  pub answer_ruled : refusal_of (order_in id c.slots) answer ≡ Ok tt
      → AreRuled c.fields.stage c.table c.fields.time (after_answer_to id answer c.fields.time c.slots)
  answer_ruled given = at (record_by_id id c.slots) refl
    where
      at : (o : Option SlotState) → record_by_id id c.slots ≡ o
          → AreRuled c.fields.stage c.table c.fields.time (after_answer_to id answer c.fields.time c.slots)
      at None is = absurd (false≢true (taken None (sym (ap (λ o. refusal_of (order_of o) answer) is) ∙ given)))
      at (Some found) is =
          found_ruled found is (taken found.order (sym (ap (λ o. refusal_of (order_of o) answer) is) ∙ given))
