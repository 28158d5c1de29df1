-- Open starts stay allowed after a change that opens no start and makes no entry owed.
use Rattle.core_model.proofs.Words.{arith, ◌≡◌, refl, ap, Bool, true, false, not, ◌&&◌, ◌||◌, cond, List, [], ◌∷◌, map}
use Rattle.core_model.proofs.Words.{filter, zip, Option, Some, None, is_some, list_any, false≢true, and_parts, and_from}
use Rattle.core_model.proofs.Words.{or_left, or_right, not-true, not_from_false, Entry, Stage, OrderKind, Start}
use Rattle.core_model.proofs.Words.{starts_of, waited_of, any_less, any_filtered, both_ways, falsely, or_either}
use Rattle.core_model.proofs.Words.{is_order, SlotState, is_busy, has_excluded, is_wanted_record, is_owed_record}
use Rattle.core_model.proofs.Words.{is_started, is_start_allowed, are_starts_along, are_starts_in, are_starts_free}
use Rattle.child_table.specs.Lists.{is_quiet}
use Rattle.core_model.proofs.Each.{Each, each_less}

-- an open start is one of the orders that are not open at a quiet point
pub started_busy : (order : Option OrderKind) → is_order Start order ≡ true → is_busy order ≡ true
started_busy order h = grind arith

abbrev is_busy_record : SlotState → Bool
is_busy_record slot = is_busy slot.order

pub none_busy : (slots : List SlotState) → is_quiet slots ≡ true → list_any is_busy_record slots ≡ false
none_busy slots quiet = not-true (list_any is_busy_record slots) quiet

pub none_started : (slots : List SlotState) → is_quiet slots ≡ true → list_any is_started slots ≡ false
none_started slots quiet = falsely (list_any is_started slots) (list_any is_busy_record slots)
    (any_less is_started is_busy_record (λ slot h. started_busy slot.order h) slots) (none_busy slots quiet)

-- what holds for no record holds for no pair of an entry and its record
abbrev is_started_at : Entry × SlotState → Bool
is_started_at q = is_started q.1

zip_any : (table : List Entry) (slots : List SlotState) → list_any is_started_at (zip table slots) ≡ true
    → list_any is_started slots ≡ true
zip_any [] slots h = absurd (false≢true h)
zip_any (e ∷ table) [] h = absurd (false≢true h)
zip_any (e ∷ table) (slot ∷ slots) h = or_either (is_started slot) (list_any is_started_at (zip table slots)) h
    (λ here. or_left (is_started slot) (list_any is_started slots) here)
    (λ later. or_right (is_started slot) (list_any is_started slots) (zip_any table slots later))

pub along_none : (stage : Stage) (ps : List (Entry × SlotState)) → list_any is_started_at ps ≡ false
    → are_starts_along stage ps ≡ true
along_none stage [] none = grind arith
along_none stage (p ∷ ps) none = grind (arith, along_none stage ps)

-- the starts after an entry are allowed, whether the entry is owed or not
pub along_rest : (stage : Stage) (e : Entry) (slot : SlotState) (ps : List (Entry × SlotState))
    → are_starts_along stage ((e, slot) ∷ ps) ≡ true → are_starts_along stage ps ≡ true
along_rest stage e slot ps h = grind (arith, along_none, not-true)

-- at a quiet point, no start is open
pub quiet_starts : (stage : Option Stage) (table : List Entry) (slots : List SlotState) → is_quiet slots ≡ true
    → are_starts_in stage table slots ≡ true
quiet_starts stage table slots quiet = grind (arith, none_started, along_none, falsely, zip_any)

pub quiet_free : (slots : List SlotState) → is_quiet slots ≡ true → are_starts_free slots ≡ true
quiet_free slots quiet = ap (λ b. not b || not (has_excluded slots)) (none_started slots quiet)

-- a change of a record that opens no start and does not make its entry owed
pub record IsLess (stage : Stage) (e : Entry) (before after : SlotState) : Type 0 where
  pub allowed : is_start_allowed stage e before ≡ true → is_start_allowed stage e after ≡ true
  pub started : is_started after ≡ true → is_started before ≡ true
  pub owed : is_owed_record stage e after ≡ true → is_owed_record stage e before ≡ true

pub less_same : (stage : Stage) (e : Entry) (slot : SlotState) → IsLess stage e slot slot
less_same stage e slot = record { allowed = λ h. h; started = λ h. h; owed = λ h. h }

owed_before : (w x a b c : Bool) → (a || b) ≡ true → (w && x) ≡ true → (w && (a || b || c)) ≡ true
owed_before true x true b c h k = refl
owed_before true x false true c h k = refl
owed_before true x false false c h k = absurd (false≢true h)
owed_before false x a b c h k = absurd (false≢true k)

-- a change of a record that has a child or an open start is such a change, if no start is open after it
pub less_busy : (stage : Stage) (e : Entry) (before after : SlotState)
    → (is_some before.child || is_started before) ≡ true → is_started after ≡ false → IsLess stage e before after
less_busy stage e before after there none = record {
  allowed = λ h. ap (λ b. not b || after.asked && starts_of e stage) none;
  started = λ h. both_ways (is_started after) h none;
  owed = λ h. owed_before (waited_of e) (is_some after.child || is_started after || is_wanted_record stage e after)
      (is_some before.child) (is_started before) (is_wanted_record stage e before) there h;
}

-- some record passes a test after a change only if one passed before
pub any_map : (p : SlotState → Bool) (change : SlotState → SlotState) (slots : List SlotState) → Each (λ slot. p
    (change slot) ≡ true → p slot ≡ true) slots → list_any p (map change slots) ≡ true → list_any p slots ≡ true
any_map p change [] each h = h
any_map p change (slot ∷ slots) each h = or_either (p (change slot)) (list_any p (map change slots)) h
    (λ here. or_left (p slot) (list_any p slots) (each.0 here))
    (λ later. or_right (p slot) (list_any p slots) (any_map p change slots each.1 later))

zip_less : (change : SlotState → SlotState) (table : List Entry) (slots : List SlotState)
    → Each (λ slot. is_started (change slot) ≡ true → is_started slot ≡ true) slots
    → list_any is_started_at (zip table (map change slots)) ≡ true → list_any is_started_at (zip table slots) ≡ true
zip_less change [] slots each h = h
zip_less change (e ∷ table) [] each h = h
zip_less change (e ∷ table) (slot ∷ slots) each h =
    or_either (is_started (change slot)) (list_any is_started_at (zip table (map change slots))) h
    (λ here. or_left (is_started slot) (list_any is_started_at (zip table slots)) (each.0 here)) (λ later. or_right
    (is_started slot) (list_any is_started_at (zip table slots)) (zip_less change table slots each.1 later))

pub along_less : (stage : Stage) (change : SlotState → SlotState) (table : List Entry) (slots : List SlotState)
    → Each (λ slot. (e : Entry) → IsLess stage e slot (change slot)) slots
    → are_starts_along stage (zip table slots) ≡ true → are_starts_along stage (zip table (map change slots)) ≡ true
along_less stage change (e ∷ table) (slot ∷ slots) each h =
    let parts = and_parts (is_start_allowed stage e slot) (cond (is_owed_record stage e slot)
    (not (list_any is_started_at (zip table slots))) (are_starts_along stage (zip table slots))) h in
    and_from (is_start_allowed stage e (change slot)) (cond (is_owed_record stage e (change slot)) (not
    (list_any is_started_at (zip table (map change slots)))) (are_starts_along stage (zip table (map change slots))))
    (less.allowed parts.0) (at (is_owed_record stage e slot) refl (is_owed_record stage e (change slot)) refl parts.1
    (along_less stage change table slots each.1))
  where
    less : IsLess stage e slot (change slot)
    less = each.0 e

    started : list_any is_started_at (zip table (map change slots)) ≡ true
        → list_any is_started_at (zip table slots) ≡ true
    started = zip_less change table slots (each_less (λ s. (x : Entry) → IsLess stage x s (change s))
        (λ s. is_started (change s) ≡ true → is_started s ≡ true) (λ s fewer. (fewer e).started) slots each.1)

    none : not (list_any is_started_at (zip table slots)) ≡ true
        → list_any is_started_at (zip table (map change slots)) ≡ false
    none h = falsely (list_any is_started_at (zip table (map change slots)))
        (list_any is_started_at (zip table slots)) started (not-true (list_any is_started_at (zip table slots)) h)

    at : (before : Bool) → is_owed_record stage e slot ≡ before → (after : Bool)
        → is_owed_record stage e (change slot) ≡ after
        → cond before (not (list_any is_started_at (zip table slots))) (are_starts_along stage (zip table slots)) ≡ true
        → (are_starts_along stage (zip table slots) ≡ true
        → are_starts_along stage (zip table (map change slots)) ≡ true)
        → cond after (not (list_any is_started_at (zip table (map change slots))))
        (are_starts_along stage (zip table (map change slots))) ≡ true
    at true was true is h rest = not_from_false (list_any is_started_at (zip table (map change slots))) (none h)
    at true was false is h rest = along_none stage (zip table (map change slots)) (none h)
    at false was true is h rest = both_ways (is_owed_record stage e slot) (less.owed is) was
    at false was false is h rest = rest h
along_less stage change table slots each h = grind arith

pub starts_less : (stage : Option Stage) (change : SlotState → SlotState) (table : List Entry)
    (slots : List SlotState) → Each (λ slot. is_started (change slot) ≡ true → is_started slot ≡ true) slots
    → ((now : Stage) → Each (λ slot. (e : Entry) → IsLess now e slot (change slot)) slots)
    → are_starts_in stage table slots ≡ true → are_starts_in stage table (map change slots) ≡ true
starts_less None change table slots started less none =
    not_from_false (list_any is_started (map change slots)) (falsely (list_any is_started (map change slots))
    (list_any is_started slots) (any_map is_started change slots started) (not-true (list_any is_started slots) none))
starts_less (Some now) change table slots started less along = along_less now change table slots (less now) along

-- no start comes to be open while a child is excluded, if the change begins to stop none
free_by : (s x t y : Bool) → (t ≡ true → s ≡ true) → (y ≡ true → x ≡ true) → (not s || not x) ≡ true
    → (not t || not y) ≡ true
free_by s x false y starts stops h = refl
free_by s x true false starts stops h = refl
free_by s x true true starts stops h = grind arith

abbrev is_stopped : SlotState → Bool
is_stopped slot = is_some slot.stop

pub free_less : (change : SlotState → SlotState) (slots : List SlotState) → Each
    (λ slot. is_started (change slot) ≡ true → is_started slot ≡ true) slots → Each (λ slot. is_some (change slot).stop
    ≡ true → is_some slot.stop ≡ true) slots → are_starts_free slots ≡ true → are_starts_free (map change slots) ≡ true
free_less change slots starts stops free = free_by (list_any is_started slots) (list_any is_stopped slots)
    (list_any is_started (map change slots)) (list_any is_stopped (map change slots))
    (any_map is_started change slots starts) (any_map is_stopped change slots stops) free

pub free_filter : (p : SlotState → Bool) (slots : List SlotState) → are_starts_free slots ≡ true
    → are_starts_free (filter p slots) ≡ true
free_filter p slots free =
    free_by (list_any is_started slots) (list_any is_stopped slots) (list_any is_started (filter p slots))
    (list_any is_stopped (filter p slots)) (any_filtered is_started p slots) (any_filtered is_stopped p slots) free
