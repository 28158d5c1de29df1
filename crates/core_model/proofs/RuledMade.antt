-- The records made at a quiet point obey the rules: those of a new core, and after a stage, a table and a call.
use Rattle.core_model.proofs.Words.{◌≡◌, refl, sym, ap, ◌∙◌, subst, Bool, true, false, not, ◌&&◌, ◌||◌, ℕ, List, []}
use Rattle.core_model.proofs.Words.{◌∷◌, map, filter, Option, Some, None, list_any, option_map, option_map_or}
use Rattle.core_model.proofs.Words.{false≢true, and_parts, and_from, Entry, Stage, same_id, has_id, entry_of, act_of}
use Rattle.core_model.proofs.Words.{is_distinct, SlotState, new_record, adopted, left_over, is_left_over}
use Rattle.core_model.proofs.Words.{entry_records, left_records, after_call, after_enter, after_judge, are_distinct}
use Rattle.core_model.proofs.Words.{record_by_id, is_busy, IsInOrder, is_timely, are_timely, id-after_judge}
use Rattle.core_model.proofs.Words.{timely_judge, timely_enter, is_listed, order_map, order_adopt, order_new}
use Rattle.core_model.proofs.Words.{act-after_judge, timely_map, is_callable, IsFit, CoreState, called_if, with_called}
use Rattle.core_model.proofs.Words.{judged_in}
use Rattle.child_table.specs.Adopting as adopting
use Rattle.child_table.specs.Lists.{is_quiet}
use Rattle.child_table.proofs.Adopted.{adopt_distinct, timely_adopt}
use Rattle.core_model.proofs.Kept.{rules_of}
use Rattle.core_model.proofs.Each.{Each, each_fails, each_less, each_both, each_map, each_filter, each_joined}
use Rattle.core_model.proofs.Each.{each_found, distinct_map}
use Rattle.core_model.proofs.Ordering.{named_own}
use Rattle.core_model.proofs.Ruled.{IsPlaced, AreRuled, each_placed, table_distinct}
use Rattle.core_model.proofs.RuledStarts.{none_busy, quiet_starts, quiet_free}
use Rattle.core_model.proofs.RuledRecord.{IsRuled, stop_same, marks_parts, marks_from, calm_order}
use Rattle.core_model.proofs.RuledReady.{IsReady, IsCalm, judged_ruled, ready_enter, ready_new, ready_adopted}
use Rattle.core_model.proofs.RuledReady.{ready_left, dawn_stop, dawn_ruled}

-- the records of a table, from what holds for the records before
entries_each : (Q : SlotState → Type 0) (slots : List SlotState) → ((e : Entry)
    → Q (adopted e (record_by_id e.id slots))) → (table : List Entry) → Each Q (entry_records table slots)
entries_each Q slots keeps [] = tt
entries_each Q slots keeps (e ∷ table) = (keeps e, entries_each Q slots keeps table)

adopted_each : (P Q : SlotState → Type 0) (table : List Entry) (slots : List SlotState)
    → ((e : Entry) → Q (new_record e)) → ((e : Entry) (slot : SlotState) → P slot → Q (adopted e (Some slot)))
    → ((slot : SlotState) → is_left_over table slot ≡ true → P slot → Q (left_over slot)) → Each P slots
    → Each Q (adopting.after_adopt table slots)
adopted_each P Q table slots new kept left each = each_joined Q (entry_records table slots) (left_records table slots)
    (entries_each Q slots (λ e. at e (record_by_id e.id slots) refl) table)
    (each_map (λ s. P s × (is_left_over table s ≡ true)) Q left_over (λ s both. left s both.1 both.0)
    (filter (is_left_over table) slots)
    (each_filter P (λ s. P s × (is_left_over table s ≡ true)) (is_left_over table) (λ s is own. (own, is)) slots each))
  where
    at : (e : Entry) (o : Option SlotState) → record_by_id e.id slots ≡ o → Q (adopted e o)
    at e None is = new e
    at e (Some slot) is = kept e slot (each_found P e.id slots slot is each)

-- records that obey the rules, with no start and no signal open, obey those about starts
quiet_each : (slots : List SlotState) → Each (λ s. is_busy s.order ≡ false) slots → is_quiet slots ≡ true
quiet_each [] each = refl
quiet_each (slot ∷ slots) each =
    ap (λ b. not (b || list_any (λ (s : SlotState). is_busy s.order) slots)) each.0 ∙ quiet_each slots each.1

quiet_ruled : (stage : Option Stage) (table : List Entry) (now : ℕ) (slots : List SlotState)
    → Each (IsCalm stage table now) slots → IsInOrder table slots → are_distinct slots ≡ true
    → are_timely now slots ≡ true → AreRuled stage table now slots
quiet_ruled stage table now slots each order distinct timely =
    let quiet : is_quiet slots ≡ true = quiet_each slots
    (each_less (IsCalm stage table now) (λ s. is_busy s.order ≡ false) (λ s calm. calm.1) slots each) in
    record {
      each = each_less (IsCalm stage table now) (IsRuled stage table now) (λ s calm. calm.0) slots each;
      in_order = order;
      distinct = distinct;
      starts = quiet_starts stage table slots quiet;
      free = quiet_free slots quiet;
      timely = timely;
    }

pub opening_ruled : (table : List Entry) → is_distinct table ≡ true → AreRuled None table 0 (map new_record table)
opening_ruled table distinct =
    quiet_ruled None table 0 (map new_record table) (each table) (order_new table) (apart table distinct) (timely table)
  where
    each : (es : List Entry) → Each (IsCalm None table 0) (map new_record es)
    each [] = tt
    each (e ∷ es) = (dawn_ruled table 0 (new_record e) (ready_new 0 e) refl, each es)

    listed : (id : List ℕ) (es : List Entry) → is_listed id (map new_record es) ≡ list_any (has_id id) es
    listed id [] = refl
    listed id (e ∷ es) = ap (λ b. same_id id e.id || b) (listed id es)

    apart : (es : List Entry) → is_distinct es ≡ true → are_distinct (map new_record es) ≡ true
    apart [] h = refl
    apart (e ∷ es) h =
        let parts = and_parts (not (list_any (has_id e.id) es)) (is_distinct es) h in
        and_from (not (is_listed e.id (map new_record es))) (are_distinct (map new_record es))
        (ap not (listed e.id es) ∙ parts.0) (apart es parts.1)

    timely : (es : List Entry) → are_timely 0 (map new_record es) ≡ true
    timely [] = refl
    timely (e ∷ es) = timely es

-- a call changes neither the id of a record nor its action
pub called_id : (b : Bool) (slot : SlotState) → (called_if b slot).id ≡ slot.id
called_id true slot = refl
called_id false slot = refl

pub called_act : (b : Bool) (slot : SlotState) → (called_if b slot).table_act ≡ slot.table_act
called_act true slot = refl
called_act false slot = refl

-- a quiet point of a core that obeys the rules
module _ (c : CoreState) (keeps : IsFit c) (quiet : is_quiet c.slots ≡ true) where
  calm_each : Each (IsCalm c.fields.stage c.table c.fields.time) c.slots
  calm_each = each_both (IsRuled c.fields.stage c.table c.fields.time) (λ s. is_busy s.order ≡ false) c.slots (each_less
      (IsPlaced c.fields.stage c.table c.fields.time) (IsRuled c.fields.stage c.table c.fields.time) (λ s own.
      own.rules) c.slots (each_placed c keeps)) (each_fails (λ s. is_busy s.order) c.slots (none_busy c.slots quiet))

  pub entered_ruled : (stage : Stage)
      → AreRuled (Some stage) c.table c.fields.time (map (after_judge c.table stage) (map after_enter c.slots))
  entered_ruled stage =
      quiet_ruled (Some stage) c.table c.fields.time (map (after_judge c.table stage) (map after_enter c.slots))
      (each_map (IsReady c.fields.time) (IsCalm (Some stage) c.table c.fields.time) (after_judge c.table stage)
      (λ s ready. judged_ruled stage c.table c.fields.time s ready) (map after_enter c.slots)
      (each_map (IsCalm c.fields.stage c.table c.fields.time) (IsReady c.fields.time) after_enter
      (λ s calm. ready_enter c.fields.stage c.table c.fields.time s calm) c.slots calm_each))
      (order_map (after_judge c.table stage) (id-after_judge c.table stage) (act-after_judge c.table stage) c.table
      (map after_enter c.slots) (order_map after_enter (λ s. refl) (λ s. refl) c.table c.slots keeps.in_order))
      (distinct_map (after_judge c.table stage) (id-after_judge c.table stage) (map after_enter c.slots)
      (distinct_map after_enter (λ s. refl) c.slots (rules_of c keeps).distinct))
      (timely_map c.fields.time (after_judge c.table stage) (λ s h. timely_judge c.fields.time c.table stage s h)
      (map after_enter c.slots)
      (timely_map c.fields.time after_enter (λ s h. timely_enter c.fields.time s h) c.slots (rules_of c keeps).timely))

  module _ (table : List Entry) (apart : is_distinct table ≡ true) where
    ready_each : Each (IsReady c.fields.time) (adopting.after_adopt table c.slots)
    ready_each = adopted_each (IsCalm c.fields.stage c.table c.fields.time) (IsReady c.fields.time) table c.slots
        (ready_new c.fields.time) (λ e s calm. ready_adopted c.fields.stage c.table c.fields.time e s calm)
        (λ s left calm. ready_left c.fields.stage c.table table c.fields.time s left calm) calm_each

    adopted_distinct : are_distinct (adopting.after_adopt table c.slots) ≡ true
    adopted_distinct = adopt_distinct table c.slots apart (rules_of c keeps).distinct

    adopted_timely : are_timely c.fields.time (adopting.after_adopt table c.slots) ≡ true
    adopted_timely = timely_adopt c.fields.time table c.slots (rules_of c keeps).timely

    adopted_dawn : c.fields.stage ≡ None → Each (IsCalm None table c.fields.time) (adopting.after_adopt table c.slots)
    adopted_dawn is = adopted_each (IsCalm None c.table c.fields.time) (IsCalm None table c.fields.time) table c.slots
        (λ e. dawn_ruled table c.fields.time (new_record e) (ready_new c.fields.time e) refl)
        (λ e s calm. dawn_ruled table c.fields.time (adopted e (Some s)) (ready_adopted None c.table c.fields.time e s
        calm) (dawn_stop s.child c.table table s (adopted e (Some s)) s.stop calm.0.stop))
        (λ s left calm. dawn_ruled table c.fields.time (left_over s) (ready_left None c.table table c.fields.time s left
        calm) (dawn_stop s.child c.table table s (left_over s) s.stop calm.0.stop))
        (subst (λ stage. Each (IsCalm stage c.table c.fields.time) c.slots) is calm_each)

    adopted_in : (stage : Option Stage) → c.fields.stage ≡ stage
        → AreRuled stage table c.fields.time (judged_in stage table (adopting.after_adopt table c.slots))
    adopted_in None is = quiet_ruled None table c.fields.time (adopting.after_adopt table c.slots) (adopted_dawn is)
        (order_adopt table c.slots) adopted_distinct adopted_timely
    adopted_in (Some stage) is = quiet_ruled (Some stage) table c.fields.time
        (map (after_judge table stage) (adopting.after_adopt table c.slots))
        (each_map (IsReady c.fields.time) (IsCalm (Some stage) table c.fields.time) (after_judge table stage)
        (λ s ready. judged_ruled stage table c.fields.time s ready) (adopting.after_adopt table c.slots) ready_each)
        (order_map (after_judge table stage) (id-after_judge table stage) (act-after_judge table stage) table
        (adopting.after_adopt table c.slots) (order_adopt table c.slots))
        (distinct_map (after_judge table stage) (id-after_judge table stage)
        (adopting.after_adopt table c.slots) adopted_distinct)
        (timely_map c.fields.time (after_judge table stage) (λ s h. timely_judge c.fields.time table stage s h)
        (adopting.after_adopt table c.slots) adopted_timely)

    pub adopted_ruled : AreRuled c.fields.stage table c.fields.time
        (judged_in c.fields.stage table (adopting.after_adopt table c.slots))
    adopted_ruled = adopted_in c.fields.stage refl

  -- entries that can be called are called
  module _ (named : Entry → Bool) (callable : (e : Entry) → named e ≡ true → is_callable (Some e.act) ≡ true) where
    abbrev call : SlotState → SlotState
    call slot = called_if (list_any (λ e. has_id slot.id e && named e) c.table) slot

    named_callable : (slot : SlotState) → slot.table_act ≡ act_of slot.id c.table
        → list_any (λ e. has_id slot.id e && named e) c.table ≡ true → is_callable slot.table_act ≡ true
    named_callable slot own h = ap is_callable own ∙ at (entry_of slot.id c.table) (sym (named_own named slot.id c.table
        (table_distinct c.table c.slots keeps.in_order (rules_of c keeps).distinct)) ∙ h)
      where
        at : (o : Option Entry) → option_map_or named o false ≡ true
            → is_callable (option_map (λ (e : Entry). e.act) o) ≡ true
        at None h = absurd (false≢true h)
        at (Some e) h = callable e h

    call_ruled : (b : Bool) (slot : SlotState) → (b ≡ true → is_callable slot.table_act ≡ true) → IsCalm
        c.fields.stage c.table c.fields.time slot → IsCalm c.fields.stage c.table c.fields.time (called_if b slot)
    call_ruled true slot may calm =
        let marked = marks_parts slot calm.0.marks in (
          record {
            cause = calm.0.cause;
            birth = calm.0.birth;
            order = calm_order slot.order slot (after_call slot) calm.1 refl calm.0.order;
            stop = stop_same slot.child c.fields.stage c.table slot (after_call slot) slot.stop refl calm.0.stop;
            marks =
                marks_from (after_call slot) (record { look = marked.look; missed = marked.missed; called = may refl });
            limiter = calm.0.limiter;
          },
          calm.1,
        )
    call_ruled false slot may calm = calm

    called_timely : (b : Bool) (slot : SlotState) → is_timely c.fields.time slot ≡ true
        → is_timely c.fields.time (called_if b slot) ≡ true
    called_timely true slot h = h
    called_timely false slot h = h

    own_calm : Each (λ s. IsCalm c.fields.stage c.table c.fields.time s × (s.table_act ≡ act_of s.id c.table)) c.slots
    own_calm = each_both (IsCalm c.fields.stage c.table c.fields.time) (λ s. s.table_act ≡ act_of s.id c.table) c.slots
        calm_each (each_less (IsPlaced c.fields.stage c.table c.fields.time) (λ s. s.table_act ≡ act_of s.id c.table)
        (λ s own. own.own) c.slots (each_placed c keeps))

    pub called_ruled : AreRuled c.fields.stage c.table c.fields.time (with_called named c.table c.slots)
    called_ruled = quiet_ruled c.fields.stage c.table c.fields.time (map call c.slots)
        (each_map (λ s. IsCalm c.fields.stage c.table c.fields.time s × (s.table_act ≡ act_of s.id c.table))
        (IsCalm c.fields.stage c.table c.fields.time) call (λ s both. call_ruled
        (list_any (λ e. has_id s.id e && named e) c.table) s (named_callable s both.1) both.0) c.slots own_calm)
        (order_map call (λ s. called_id (list_any (λ e. has_id s.id e && named e) c.table) s)
        (λ s. called_act (list_any (λ e. has_id s.id e && named e) c.table) s) c.table c.slots keeps.in_order)
        (distinct_map call (λ s. called_id (list_any (λ e. has_id s.id e && named e) c.table) s) c.slots
        (rules_of c keeps).distinct)
        (timely_map c.fields.time call
        (λ s h. called_timely (list_any (λ e. has_id s.id e && named e) c.table) s h) c.slots (rules_of c keeps).timely)
