-- Positions up to which records are seen and entries are passed: a search may begin there, and changes preserve them.
use Rattle.level_core.proofs.Words.{◌≡◌, ◌≢◌, refl, Bool, true, false, not, ◌&&◌, ◌||◌, ◌==◌, ℕ, zero, suc, ◌+◌, ◌<◌}
use Rattle.level_core.proofs.Words.{◌≤◌, arith, List, [], ◌∷◌, drop, zip, map, Option, Some, None, is_some, is_none}
use Rattle.level_core.proofs.Words.{drop-nil, and_parts, and_from, false≢true, eqb-true, eq-eqb, nat_lt, ltb-true}
use Rattle.level_core.proofs.Words.{ltb-false, subst, sym, ◌∙◌, Entry, Stage, SlotState, is_record_of, changed}
use Rattle.level_core.proofs.Words.{with_changed, is_wanted_record, is_owed_record, start_along, start_step, look_among}
use Rattle.level_core.proofs.Words.{Each, each_always, cond, is_limited, is_held, is_held_back, is_seen_record}
use Rattle.level_core.proofs.Words.{are_seen, is_passed_in, is_passed_at, ArePassedFrom, ArePassed, AllExcept, Places}
use Rattle.trace_events.specs.declared.steps.Step.{Step}

-- all positions before `next`, except for `first` and one more
but : (i position : ℕ) (b : Bool) → i ≢ position → (i == position || b) ≡ true → b ≡ true
but i position b other h = grind arith

pub narrower : (passed : ℕ → Bool) (old new : Places) (position : ℕ) → new.first ≤ new.next
    → ((i : ℕ) → i < new.next → i ≢ new.first → (i < old.next) × (i ≢ old.first) × (i ≢ position))
    → AllExcept (λ i. i == position || passed i) old → AllExcept passed new
narrower passed old new position h each all =
    (h, λ i lt other. let to = each i lt other in but i position (passed i) to.2 (all.1 i to.0 to.1))

-- what holds at every other position holds at all positions except one
pub all_but : (test later : ℕ → Bool) (places : Places) (position : ℕ) → ((i : ℕ) → i ≢ position → later i ≡ test i)
    → AllExcept test places → AllExcept (λ i. i == position || later i) places
all_but test later places position same all = (all.0, λ i lt other. by i (i == position) refl (all.1 i lt other))
  where
    by : (i : ℕ) (b : Bool) → (i == position) ≡ b → test i ≡ true → (b || later i) ≡ true
    by i true is h = refl
    by i false is h = rw (same i (λ e. false≢true (sym is ∙ eq-eqb i position e))) h

pub none_behind : {test : ℕ → Bool} → AllExcept test (record { first = 0; next = 0 })
none_behind = (omega arith, λ i lt other. absurd (omega arith))

-- a test that holds from a position on holds for one more, and for all before that
pub one_further : (test : ℕ → Bool) (from to : ℕ) → ((i : ℕ) → from ≤ i → i < to → test i ≡ true) → true ≡ test to
    → (i : ℕ) → from ≤ i → i < to + 1 → test i ≡ true
one_further test from to so_far one i least most = grind arith

pub further : (test : ℕ → Bool) (places : Places) (to : ℕ) → places.next ≤ to
    → ((i : ℕ) → places.next ≤ i → i < to → test i ≡ true) → AllExcept test places
    → AllExcept test (record { first = places.first; next = to })
further test places to h more all =
    (let first = all.0 in omega arith, λ i lt other. by i lt other (nat_lt i places.next) refl)
  where
    by : (i : ℕ) → i < to → i ≢ places.first → (b : Bool) → nat_lt i places.next ≡ b → test i ≡ true
    by i lt other true is = all.1 i (ltb-true i places.next is) other
    by i lt other false is = more i (ltb-false i places.next is) lt

pub over : (test : ℕ → Bool) (places : Places) (to : ℕ) → places.next ≤ to
    → ((i : ℕ) → places.next ≤ i → i < to → test i ≡ true)
    → (places.first < places.next → test places.first ≡ true) → AllExcept test places
    → AllExcept test (record { first = to; next = to })
over test places to h more own all = (omega arith, λ i lt other. by i lt (i == places.first) refl)
  where
    by : (i : ℕ) → i < to → (b : Bool) → (i == places.first) ≡ b → test i ≡ true
    by i lt false is = (further test places to h more all).1 i lt (λ e. false≢true (sym is ∙ eq-eqb i places.first e))
    by i lt true is = at (nat_lt i places.next) refl
      where
        at : (b : Bool) → nat_lt i places.next ≡ b → test i ≡ true
        at true below = let same = eqb-true i places.first is in subst (λ n. test n ≡ true) (sym same)
            (own (subst (λ n. n < places.next) same (ltb-true i places.next below)))
        at false behind = more i (ltb-false i places.next behind) lt

-- at the same time, an entry that is passed stays passed
pub still_passed : (stage : Option Stage) (old new : ℕ) (ps : List (Entry × SlotState)) (places : Places) → old ≤ new
    → nat_lt old new ≡ false → AllExcept (is_passed_at stage old ps) places
    → AllExcept (is_passed_at stage new ps) places
still_passed stage old new ps places later same passed =
    let least = ltb-false old new same in
    let is : old ≡ new = omega arith in
    subst (λ n. AllExcept (is_passed_at stage n ps) places) is passed

-- a search for a look may begin at the position
no_look : (child order look : Bool) → not (child && look) ≡ true → (child && order && look) ≡ false
no_look true true true h = absurd (false≢true h)
no_look true true false h = refl
no_look true false look h = refl
no_look false order look h = refl

pub look_from : (slots : List SlotState) (i : ℕ) → are_seen i slots ≡ true
    → look_among slots ≡ look_among (drop i slots)
look_from (slot ∷ slots) (suc i) seen =
    let parts = and_parts (is_seen_record slot) (are_seen i slots) seen in
    rw (no_look (is_some slot.child) (is_none slot.order) slot.look parts.0) (look_from slots i parts.1)
look_from slots i seen = grind (arith, drop-nil, zero)

no_step : (wanted child order limited held : Bool) (one other : Option Step) → not ((wanted && child) && not
    (limited && held)) ≡ true → cond (wanted && child && order) (cond limited (cond held None one) other) None ≡ None
no_step true true true true true one other h = refl
no_step true true true true false one other h = absurd (false≢true h)
no_step true true true false held one other h = absurd (false≢true h)
no_step true true false limited held one other h = refl
no_step true false order limited held one other h = refl
no_step false child order limited held one other h = refl

-- an entry that is passed is neither started nor held
pub passed_step : (stage : Stage) (now : ℕ) (e : Entry) (slot : SlotState) → not ((is_wanted_record stage e slot
    && is_none slot.child) && not (is_held_back now e slot)) ≡ true → start_step stage now e slot ≡ None
passed_step stage now e slot h = no_step (is_wanted_record stage e slot) (is_none slot.child) (is_none slot.order)
    (is_limited e.act) (is_held slot.limiter.held now) _ _ h

pub not_so : (b : Bool) → not b ≡ true → b ≡ false
not_so true h = absurd (false≢true h)
not_so false h = refl

-- a search for a start may skip entries that are passed
pub passed_on : (stage : Stage) (now : ℕ) (ps : List (Entry × SlotState)) (from to : ℕ) → from ≤ to → ArePassedFrom
    (Some stage) now ps from to → start_along stage now (drop from ps) ≡ start_along stage now (drop to ps)
passed_on stage now [] from to h passed = rw (drop-nil from, drop-nil to) refl
passed_on stage now (p ∷ ps) zero zero h passed = refl
passed_on stage now (p ∷ ps) zero (suc to) h passed =
    let own = and_parts (not ((is_wanted_record stage p.0 p.1 && is_none p.1.child) && not (is_held_back now p.0 p.1)))
    (not (is_owed_record stage p.0 p.1)) (passed 0 (omega arith) (omega arith)) in
    rw (passed_step stage now p.0 p.1 own.0, not_so (is_owed_record stage p.0 p.1) own.1)
    (passed_on stage now ps zero to (omega arith) (λ i least most. passed (suc i) (omega arith) (omega arith)))
passed_on stage now (p ∷ ps) (suc from) zero h passed = absurd (omega arith)
passed_on stage now (p ∷ ps) (suc from) (suc to) h passed =
    passed_on stage now ps from to (omega arith) (λ i least most. passed (suc i) (omega arith) (omega arith))

module _ (stage : Stage) (now : ℕ) (table : List Entry) (slots : List SlotState) (places : Places)
    (passed : ArePassed (Some stage) now places table slots) where
  pub first_on : start_along stage now (zip table slots) ≡ start_along stage now (drop places.first (zip table slots))
  first_on = let h = passed.0 in passed_on stage now (zip table slots) 0 places.first (omega arith)
      (λ i least most. passed.1 i (omega arith) (λ is. omega arith))

  pub next_on : places.first < places.next → start_along stage now (drop (places.first + 1) (zip table slots))
      ≡ start_along stage now (drop places.next (zip table slots))
  next_on h = passed_on stage now (zip table slots) (places.first + 1) places.next (omega arith)
      (λ i least most. passed.1 i most (λ is. omega arith))

  pub all_on : places.next ≤ places.first
      → start_along stage now (zip table slots) ≡ start_along stage now (drop places.next (zip table slots))
  all_on h = passed_on stage now (zip table slots) 0 places.next (omega arith)
      (λ i least most. passed.1 i most (λ is. omega arith))

-- the change keeps a record seen, and an entry passed
abbrev pub KeepsSeen : (SlotState → SlotState) → SlotState → Type 0
KeepsSeen change slot = is_seen_record slot ≡ true → is_seen_record (change slot) ≡ true

abbrev pub KeepsPassed : Option Stage → ℕ → (SlotState → SlotState) → SlotState → Type 0
KeepsPassed stage now change slot = (e : Entry) → is_passed_in stage now e slot ≡ true
    → is_passed_in stage now e (change slot) ≡ true

pub seen_map : (change : SlotState → SlotState) (slots : List SlotState) (i : ℕ) → Each (KeepsSeen change) slots
    → are_seen i slots ≡ true → are_seen i (map change slots) ≡ true
seen_map change (slot ∷ slots) (suc i) each seen =
    let parts = and_parts (is_seen_record slot) (are_seen i slots) seen in
    and_from (is_seen_record (change slot)) (are_seen i (map change slots)) (each.0 parts.0)
    (seen_map change slots i each.1 parts.1)
seen_map change slots i each seen = grind (arith, zero)

pub passed_map : (stage : Option Stage) (now : ℕ) (change : SlotState → SlotState) (table : List Entry)
    (slots : List SlotState) (i : ℕ) → Each (KeepsPassed stage now change) slots
    → is_passed_at stage now (zip table slots) i ≡ true → is_passed_at stage now (zip table (map change slots)) i ≡ true
passed_map stage now change [] slots i each passed = passed
passed_map stage now change (e ∷ table) [] i each passed = passed
passed_map stage now change (e ∷ table) (slot ∷ slots) zero each passed = each.0 e passed
passed_map stage now change (e ∷ table) (slot ∷ slots) (suc i) each passed =
    passed_map stage now change table slots i each.1 passed

pub all_passed_map : (stage : Option Stage) (now : ℕ) (change : SlotState → SlotState) (table : List Entry)
    (slots : List SlotState) (places : Places) → ((slot : SlotState) → KeepsPassed stage now change slot)
    → ArePassed stage now places table slots → ArePassed stage now places table (map change slots)
all_passed_map stage now change table slots places keeps passed = (
  passed.0,
  λ i lt other. passed_map stage now change table slots i (each_always (KeepsPassed stage now change) keeps slots)
      (passed.1 i lt other),
)

-- a change of the records of one id
pub seen_changed : (id : List ℕ) (change : SlotState → SlotState) (slots : List SlotState) (i : ℕ) → ((slot :
    SlotState) → KeepsSeen change slot) → are_seen i slots ≡ true → are_seen i (with_changed id change slots) ≡ true
seen_changed id change slots i keeps seen =
    grind (arith, seen_map, changed, each_always, is_record_of, SlotState, Bool, is_seen_record)
