-- Each call keeps the records timely and in table order.
use Rattle.level_core.proofs.Words.{◌≡◌, refl, sym, subst, ℕ, Bool, true, false, ◌&&◌, List, [], ◌∷◌, map, Option, Some}
use Rattle.level_core.proofs.Words.{None, Result, Ok, Err, OnOk, OnErr, Entry, Stage, SlotState, new_record}
use Rattle.level_core.proofs.Words.{after_enter, IsInOrder, timely_judge, timely_enter, id-after_judge, order_map}
use Rattle.level_core.proofs.Words.{order_adopt, act-after_judge, timely_map, called_act, called_id, judged_in}
use Rattle.level_core.proofs.Words.{called_if, with_called, CoreState, decide, decide_holds, fits_adopt, Hold}
use Rattle.level_core.proofs.Words.{has_record_of, is_quiet, order_in, refusal_of, Answer, Refusal, NotQuiet, IsFit}
use Rattle.level_core.proofs.Words.{adopt_keeps, told_keeps, has_id, is_distinct, list_any}
use Rattle.child_table.specs.Judging.{after_judge}
use Rattle.child_table.specs.Adopting.{after_adopt}
use Rattle.child_table.specs.Times.{is_timely, are_timely}
use Rattle.child_table.proofs.Adopted.{timely_adopt}
use Rattle.core_model.specs.Steps as core
use Rattle.core_model.specs.Fit.{FitsExtendedTrace, ForAllFittedTraces}
use Rattle.trace_events.specs.declared.happenings.Happening.TheVariants.{NewTable}

abbrev pub IsKept : ℕ → List Entry → List SlotState → Type 0
IsKept now table slots = (are_timely now slots ≡ true) × IsInOrder table slots

pub kept_judged : (now : ℕ) (table : List Entry) (stage : Stage) (slots : List SlotState) → IsKept now table slots
    → IsKept now table (map (after_judge table stage) slots)
kept_judged now table stage slots kept = (
  timely_map now (after_judge table stage) (λ slot h. timely_judge now table stage slot h) slots kept.0,
  order_map (after_judge table stage) (id-after_judge table stage) (act-after_judge table stage) table slots kept.1,
)

pub kept_entered : (now : ℕ) (table : List Entry) (stage : Stage) (slots : List SlotState) → IsKept now table slots
    → IsKept now table (map (after_judge table stage) (map after_enter slots))
kept_entered now table stage slots kept = kept_judged now table stage (map after_enter slots) (
  timely_map now after_enter (λ slot h. timely_enter now slot h) slots kept.0,
  order_map after_enter (λ s. refl) (λ s. refl) table slots kept.1,
)

pub kept_adopted : (now : ℕ) (table : List Entry) (stage : Option Stage) (slots : List SlotState)
    → are_timely now slots ≡ true → IsKept now table (judged_in stage table (after_adopt table slots))
kept_adopted now table None slots timely = (timely_adopt now table slots timely, order_adopt table slots)
kept_adopted now table (Some stage) slots timely =
    kept_judged now table stage (after_adopt table slots) (timely_adopt now table slots timely, order_adopt table slots)

pub timely_opening : (now : ℕ) (table : List Entry) → are_timely now (map new_record table) ≡ true
timely_opening now [] = refl
timely_opening now (e ∷ es) = timely_opening now es

-- a call changes neither times nor order
called_timely : (now : ℕ) (b : Bool) (slot : SlotState) → is_timely now slot ≡ true
    → is_timely now (called_if b slot) ≡ true
called_timely now true slot h = h
called_timely now false slot h = h

pub kept_called : (now : ℕ) (table : List Entry) (named : Entry → Bool) (slots : List SlotState)
    → IsKept now table slots → IsKept now table (with_called named table slots)
kept_called now table named slots kept = (
  timely_map now call
      (λ slot h. called_timely now (list_any (λ e. has_id slot.id e && named e) table) slot h) slots kept.0,
  order_map call (λ slot. called_id (list_any (λ e. has_id slot.id e && named e) table) slot)
      (λ slot. called_act (list_any (λ e. has_id slot.id e && named e) table) slot) table slots kept.1,
)
  where
    call : SlotState → SlotState
    call slot = called_if (list_any (λ e. has_id slot.id e && named e) table) slot

-- the core fits after a table was adopted
pub adopted_fits : (result : Result (Unit {0}) Refusal) (table : List Entry) (old new : CoreState)
    → OnOk result (new ≡ core.after_adopt table old) → OnOk result (is_distinct table ≡ true)
    → OnOk result (ForAllFittedTraces old (λ goal past. FitsExtendedTrace old new goal past (NewTable table ∷ past)))
adopted_fits (Ok done) table old new is distinct =
    λ goal past sound fits. rw is (fits_adopt goal past old sound fits table distinct)
adopted_fits (Err why) table old new is distinct = tt

pub held_in : (c v : CoreState) → v ≡ c → IsInOrder v.table v.slots → (id : List ℕ) → decide c ≡ Hold id
    → has_record_of id v.slots ≡ true
held_in c v is order id decided = subst (λ (x : CoreState). has_record_of id x.slots ≡ true) (sym is)
    (decide_holds c (subst (λ (x : CoreState). IsInOrder x.table x.slots) is order) id decided)

-- the rules still hold after an answer was accepted or rejected, and after a table was adopted
pub told_kept : (c new : CoreState) → IsFit c → (id : List ℕ) (answer : Answer) (result : Result (Unit {0}) Refusal)
    → result ≡ refusal_of (order_in id c.slots) answer → OnOk result (new ≡ core.after_answer_to id answer c)
    → OnErr result (new ≡ c) → IsFit new
told_kept c new keeps id answer (Ok tt) is told same = rw told (told_keeps c keeps id answer (sym is))
told_kept c new keeps id answer (Err why) is told same = rw same keeps

pub adopt_kept : (result : Result (Unit {0}) Refusal) (table : List Entry) (old new : CoreState)
    → OnOk result (new ≡ core.after_adopt table old) → OnOk result (is_distinct table ≡ true)
    → (is_quiet old.slots ≡ false → result ≡ Err NotQuiet) → OnErr result (new ≡ old) → IsFit old → IsFit new
adopt_kept (Err why) table old new is distinct busy same fit = rw same fit
adopt_kept (Ok tt) table old new is distinct busy same fit = rw is (by (is_quiet old.slots) refl)
  where
    by : (b : Bool) → is_quiet old.slots ≡ b → IsFit (core.after_adopt table old)
    by true quiet = adopt_keeps old fit quiet table distinct
    by false noisy = let clash : ◌≡◌ {A = Result (Unit {0}) Refusal} (Ok tt) (Err NotQuiet) = busy noisy in absurd (cc)
