-- Orders, answers, calls and rounds keep records seen and entries passed.
use Rattle.level_core.proofs.Words.{◌≡◌, ◌≢◌, refl, sym, ap, ◌∙◌, Bool, true, false, not, ◌&&◌, ◌||◌, ◌==◌, ◌-◌, arith}
use Rattle.level_core.proofs.Words.{cond, ℕ, zero, suc, List, [], ◌∷◌, map, zip, take-nil, slice_get, Option, Some}
use Rattle.level_core.proofs.Words.{None, is_some, is_none, list_any, Ok, is_wanted_record, is_owed_record, is_limited}
use Rattle.level_core.proofs.Words.{is_held, order_in, order_of, refusal_of, can_ask_of, changes_starts, and_parts}
use Rattle.level_core.proofs.Words.{and_from, or_left, or_right, true≢false, false≢true, Entry, Stage, Start, Look}
use Rattle.level_core.proofs.Words.{Term, Kill, Answer, has_id, SlotState, IsInOrder, after_order, after_hold}
use Rattle.level_core.proofs.Words.{after_nudge, after_answer, is_record_of, are_distinct, record_by_id}
use Rattle.level_core.proofs.Words.{has_record_of, can_ask, ends_record, changed, with_changed, after_answer_to}
use Rattle.level_core.proofs.Words.{called_if}
use Rattle.level_core.proofs.Words.{with_called, each_always, is_seen_record, are_seen, is_passed_in, is_passed_at}
use Rattle.level_core.proofs.Words.{ArePassed, AllExcept, Places}
use Rattle.std.specs.Option.{option_map_or}
use Rattle.init_words.specs.Orders.{same_ask}
use Rattle.respawn_limit.specs.Window.{with_hold}
use Rattle.trace_events.specs.Wanted.{is_order}
use Rattle.init_words.specs.declared.orders.OrderKind.{OrderKind}
use Rattle.init_words.specs.declared.orders.Answer.TheVariants.{Born, NotBorn, Ended, Alive, NoLook, Hit, Miss}
use Rattle.child_table.specs.Lists.{is_over_in, without}
use Rattle.child_table.proofs.Found.{is_listed, others, rest_distinct, unchanged, without_none}
use Rattle.child_table.proofs.Ordered.{over_none}
use Rattle.level_core.proofs.Places.{KeepsSeen, KeepsPassed, seen_map, seen_changed, all_passed_map, all_but}

-- the record at the position is that of the id
abbrev pub is_place : List ℕ → ℕ → List SlotState → Bool
is_place id position slots = option_map_or (is_record_of id) (slice_get slots position) false

-- rounds, holds and calls
nudge_passes : (stage : Option Stage) (now : ℕ) (slot : SlotState) → KeepsPassed stage now after_nudge slot
nudge_passes None now slot e h = refl
nudge_passes (Some stage) now slot e h = h

pub passed_nudged : (stage : Option Stage) (now : ℕ) (table : List Entry) (slots : List SlotState) (places : Places)
    → ArePassed stage now places table slots → ArePassed stage now places table (map after_nudge slots)
passed_nudged stage now table slots places passed =
    all_passed_map stage now after_nudge table slots places (nudge_passes stage now) passed

held_more : (wanted limited held owed : Bool) → (not (wanted && not (limited && held)) && not owed) ≡ true
    → (not (wanted && not (limited && true)) && not owed) ≡ true
held_more false limited held owed h = h
held_more true false held owed h = h
held_more true true held false h = refl
held_more true true true true h = absurd (false≢true h)
held_more true true false true h = absurd (false≢true h)

hold_passes : (stage : Option Stage) (now : ℕ) (slot : SlotState) → KeepsPassed stage now (after_hold now) slot
hold_passes None now slot e h = refl
hold_passes (Some stage) now slot e h =
    let held : is_held (with_hold slot.limiter now).held now ≡ true = grind arith in
    rw held (held_more (is_wanted_record stage e slot && is_none slot.child) (is_limited e.act)
    (is_held slot.limiter.held now) (is_owed_record stage e slot) h)

pub seen_held : (id : List ℕ) (now : ℕ) (slots : List SlotState) (i : ℕ) → are_seen i slots ≡ true
    → are_seen i (with_changed id (after_hold now) slots) ≡ true
seen_held id now slots i seen = seen_changed id (after_hold now) slots i (λ slot h. h) seen

pub passed_held : (stage : Option Stage) (id : List ℕ) (now : ℕ) (table : List Entry) (slots : List SlotState)
    (places : Places) → ArePassed stage now places table slots
    → ArePassed stage now places table (with_changed id (after_hold now) slots)
passed_held stage id now table slots places passed = all_passed_map stage now
    (changed id (after_hold now)) table slots places (λ slot e h. at slot e (is_record_of id slot) h) passed
  where
    at : (slot : SlotState) (e : Entry) (b : Bool) → is_passed_in stage now e slot ≡ true
        → is_passed_in stage now e (cond b (after_hold now slot) slot) ≡ true
    at slot e true h = hold_passes stage now slot e h
    at slot e false h = h

call_seen : (b : Bool) (slot : SlotState) → is_seen_record slot ≡ true → is_seen_record (called_if b slot) ≡ true
call_seen true slot h = h
call_seen false slot h = h

pub seen_called : (named : Entry → Bool) (table : List Entry) (slots : List SlotState) (i : ℕ)
    → are_seen i slots ≡ true → are_seen i (with_called named table slots) ≡ true
seen_called named table slots i seen =
    grind (arith, seen_map, each_always, KeepsSeen, call_seen, list_any, has_id, SlotState, called_if)

-- orders
unlooked : (child : Bool) → not (child && false) ≡ true
unlooked true = refl
unlooked false = refl

order_seen : (ask : OrderKind) (now : ℕ) (slot : SlotState) → KeepsSeen (after_order ask now) slot
order_seen Start now slot h = h
order_seen Look now slot h = unlooked (is_some slot.child)
order_seen Term now slot h = h
order_seen Kill now slot h = h

pub seen_ordered : (id : List ℕ) (ask : OrderKind) (now : ℕ) (slots : List SlotState) (i : ℕ)
    → are_seen i slots ≡ true → are_seen i (with_changed id (after_order ask now) slots) ≡ true
seen_ordered id ask now slots i seen = seen_changed id (after_order ask now) slots i (order_seen ask now) seen

-- a change of the record at a position does not change the others
listed_at : (id : List ℕ) (slots : List SlotState) (i : ℕ) → is_place id i slots ≡ true → is_listed id slots ≡ true
listed_at id [] i at = absurd (false≢true at)
listed_at id (slot ∷ slots) zero at = or_left (is_record_of id slot) (is_listed id slots) at
listed_at id (slot ∷ slots) (suc i) at = or_right (is_record_of id slot) (is_listed id slots) (listed_at id slots i at)

pub other_before : (id : List ℕ) (slot : SlotState) (slots : List SlotState) (i : ℕ)
    → are_distinct (slot ∷ slots) ≡ true → is_place id i slots ≡ true → is_record_of id slot ≡ false
other_before id slot slots i distinct at = grind (arith, is_record_of, Bool, others, listed_at)

module _ (stage : Option Stage) (now : ℕ) (id : List ℕ) where
  elsewhere : (change : SlotState → SlotState) (table : List Entry) (slots : List SlotState) (i position : ℕ)
      → are_distinct slots ≡ true → is_place id position slots ≡ true → i ≢ position
      → is_passed_at stage now (zip table (with_changed id change slots)) i ≡ is_passed_at stage now (zip table slots) i
  elsewhere change [] slots i position distinct at other = refl
  elsewhere change (e ∷ table) [] i position distinct at other = refl
  elsewhere change (e ∷ table) (slot ∷ slots) zero zero distinct at other = absurd (other refl)
  elsewhere change (e ∷ table) (slot ∷ slots) zero (suc position) distinct at other =
      rw (other_before id slot slots position distinct at) refl
  elsewhere change (e ∷ table) (slot ∷ slots) (suc i) zero distinct at other =
      rw (unchanged id change slots (others id slot slots distinct at)) refl
  elsewhere change (e ∷ table) (slot ∷ slots) (suc i) (suc position) distinct at other =
      elsewhere change table slots i position (rest_distinct slot slots distinct) at (λ is. other (ap suc is))

  pub passed_ordered : (ask : OrderKind) (table : List Entry) (slots : List SlotState) (places : Places) (position :
      ℕ) → are_distinct slots ≡ true → is_place id position slots ≡ true → ArePassed stage now places table slots
      → AllExcept
      (λ i. i == position || is_passed_at stage now (zip table (with_changed id (after_order ask now) slots)) i) places
  passed_ordered ask table slots places position distinct at passed = all_but (is_passed_at stage now (zip table slots))
      (is_passed_at stage now (zip table (with_changed id (after_order ask now) slots))) places position
      (λ i other. elsewhere (after_order ask now) table slots i position distinct at other) passed

  pairs_left : (answer : Answer) (table : List Entry) (slots : List SlotState) → IsInOrder table slots
      → is_over_in id answer slots ≡ true → zip table (without id slots) ≡ zip table slots
  pairs_left answer (e ∷ table) (slot ∷ slots) order over =
      by (is_record_of id slot) over (pairs_left answer table slots order.2)
    where
      by : (b : Bool) → ends_record answer (cond b (Some slot) (record_by_id id slots)) ≡ true
          → (is_over_in id answer slots ≡ true → zip table (without id slots) ≡ zip table slots)
          → zip (e ∷ table) (cond (not b) (slot ∷ without id slots) (without id slots)) ≡ (e, slot) ∷ zip table slots
      by true gone rest = absurd (false≢true (ap is_none (sym order.1) ∙ over_none answer slot gone))
      by false later rest = ap (λ ps. (e, slot) ∷ ps) (rest later)
  pairs_left answer table slots order over = grind arith

  pub passed_told : (answer : Answer) (table : List Entry) (slots : List SlotState) (places : Places) (position : ℕ)
      → IsInOrder table slots → are_distinct slots ≡ true → is_place id position slots ≡ true
      → ArePassed stage now places table slots
      → AllExcept
      (λ i. i == position || is_passed_at stage now (zip table (after_answer_to id answer now slots)) i) places
  passed_told answer table slots places position order distinct at passed = all_but
      (is_passed_at stage now (zip table slots))
      (is_passed_at stage now (zip table (after_answer_to id answer now slots)))
      places position (λ i other. by i other (is_over_in id answer slots) refl) passed
    where
      by : (i : ℕ) → i ≢ position → (over : Bool) → is_over_in id answer slots ≡ over → is_passed_at stage now
          (zip table (cond over (without id slots) (with_changed id (after_answer answer now) slots))) i
          ≡ is_passed_at stage now (zip table slots) i
      by i other true over = rw (pairs_left answer table slots order over) refl
      by i other false over = elsewhere (after_answer answer now) table slots i position distinct at other

-- orders other than a start, and answers that do not change the starts, keep entries passed if no start is open
module _ (stage : Option Stage) (now : ℕ) (id : List ℕ) (change : SlotState → SlotState)
    (keeps : (slot : SlotState) → is_order Start slot.order ≡ false → KeepsPassed stage now change slot) where
  kept_at : (table : List Entry) (slots : List SlotState) (i : ℕ) → are_distinct slots ≡ true
      → is_order Start (order_in id slots) ≡ false → is_passed_at stage now (zip table slots) i ≡ true
      → is_passed_at stage now (zip table (with_changed id change slots)) i ≡ true
  kept_at [] slots i distinct none passed = passed
  kept_at (e ∷ table) [] i distinct none passed = passed
  kept_at (e ∷ table) (slot ∷ slots) zero distinct none passed = by (is_record_of id slot) none
    where
      by : (b : Bool) → is_order Start (order_of (cond b (Some slot) (record_by_id id slots))) ≡ false
          → is_passed_in stage now e (cond b (change slot) slot) ≡ true
      by true own = keeps slot own e passed
      by false own = passed
  kept_at (e ∷ table) (slot ∷ slots) (suc i) distinct none passed =
      by (is_record_of id slot) refl none (λ own. kept_at table slots i (rest_distinct slot slots distinct) own passed)
    where
      by : (b : Bool) → is_record_of id slot ≡ b → is_order Start
          (order_of (cond b (Some slot) (record_by_id id slots))) ≡ false → (is_order Start (order_in id slots) ≡ false
          → is_passed_at stage now (zip table (with_changed id change slots)) i ≡ true)
          → is_passed_at stage now (zip table (with_changed id change slots)) i ≡ true
      by true is own later = rw (unchanged id change slots (others id slot slots distinct is)) passed
      by false is own later = later own

  pub kept_passed : (table : List Entry) (slots : List SlotState) (places : Places) → are_distinct slots ≡ true
      → is_order Start (order_in id slots) ≡ false → ArePassed stage now places table slots
      → ArePassed stage now places table (with_changed id change slots)
  kept_passed table slots places distinct none passed =
      (passed.0, λ i lt other. kept_at table slots i distinct none (passed.1 i lt other))

order_passes : (stage : Option Stage) (now : ℕ) (ask : OrderKind) → same_ask Start ask ≡ false → (slot : SlotState)
    → is_order Start slot.order ≡ false → KeepsPassed stage now (after_order ask now) slot
order_passes None now ask other slot none e h = refl
order_passes (Some stage) now Start other slot none e h = absurd (false≢true (sym other))
order_passes (Some stage) now Look other slot none e h = rw none at h
order_passes (Some stage) now Term other slot none e h = rw none at h
order_passes (Some stage) now Kill other slot none e h = rw none at h

answer_passes : (stage : Option Stage) (now : ℕ) (answer : Answer) → changes_starts answer ≡ false
    → (slot : SlotState) → is_order Start slot.order ≡ false → KeepsPassed stage now (after_answer answer now) slot
answer_passes None now answer other slot none e h = refl
answer_passes (Some stage) now (Born n) other slot none e h = absurd (false≢true (sym other))
answer_passes (Some stage) now NotBorn other slot none e h = absurd (false≢true (sym other))
answer_passes (Some stage) now (Ended status) other slot none e h = absurd (false≢true (sym other))
answer_passes (Some stage) now Alive other slot none e h = rw none at h
answer_passes (Some stage) now NoLook other slot none e h = rw none at h
answer_passes (Some stage) now Hit other slot none e h = rw none at h
answer_passes (Some stage) now Miss other slot none e h = rw none at h

-- no order is open if one may be given, and no start is open if such an answer is accepted
none_open : (ask : OrderKind) (now : ℕ) (found : Option SlotState) → can_ask_of ask now found ≡ true
    → is_order Start (order_of found) ≡ false
none_open ask now found can = grind (arith, Option, SlotState, OrderKind, is_none, is_order, same_ask)

no_start_open : (answer : Answer) (order : Option OrderKind) → changes_starts answer ≡ false
    → Ok tt ≡ refusal_of order answer → is_order Start order ≡ false
no_start_open answer order other taken = grind (arith, Option, OrderKind, Answer, is_order, same_ask)

not_over : (answer : Answer) (found : Option SlotState) → changes_starts answer ≡ false
    → ends_record answer found ≡ false
not_over answer found other = grind (arith, Option, Answer, changes_starts)

pub still_ordered : (stage : Option Stage) (now : ℕ) (id : List ℕ) (ask : OrderKind) (table : List Entry)
    (slots : List SlotState) (places : Places) → are_distinct slots ≡ true → can_ask id ask now slots ≡ true
    → same_ask Start ask ≡ false → ArePassed stage now places table slots
    → ArePassed stage now places table (with_changed id (after_order ask now) slots)
still_ordered stage now id ask table slots places distinct can other passed =
    kept_passed stage now id (after_order ask now) (order_passes stage now ask other) table slots places distinct
    (none_open ask now (record_by_id id slots) can) passed

pub still_told : (stage : Option Stage) (now : ℕ) (id : List ℕ) (answer : Answer) (table : List Entry)
    (slots : List SlotState) (places : Places) → are_distinct slots ≡ true
    → Ok tt ≡ refusal_of (order_in id slots) answer → changes_starts answer ≡ false
    → ArePassed stage now places table slots → ArePassed stage now places table (after_answer_to id answer now slots)
still_told stage now id answer table slots places distinct taken other passed = rw
    (not_over answer (record_by_id id slots) other) (kept_passed stage now id (after_answer answer now) (answer_passes
    stage now answer other) table slots places distinct (no_start_open answer (order_in id slots) other taken) passed)

-- an answer removes at most one record
answer_seen : (answer : Answer) (now : ℕ) (slot : SlotState) → KeepsSeen (after_answer answer now) slot
answer_seen (Born n) now slot h = refl
answer_seen NotBorn now slot h = h
answer_seen (Ended status) now slot h = refl
answer_seen Alive now slot h = h
answer_seen NoLook now slot h = h
answer_seen Hit now slot h = h
answer_seen Miss now slot h = h

seen_less : (slots : List SlotState) (i : ℕ) → are_seen (suc i) slots ≡ true → are_seen i slots ≡ true
seen_less (slot ∷ slots) (suc i) seen =
    let parts = and_parts (is_seen_record slot) (are_seen (suc i) slots) seen in
    and_from (is_seen_record slot) (are_seen i slots) parts.0 (seen_less slots i parts.1)
seen_less slots i seen = grind (arith, take-nil, zero)

seen_without : (id : List ℕ) (slots : List SlotState) (i : ℕ) → are_distinct slots ≡ true
    → are_seen (suc i) slots ≡ true → are_seen i (without id slots) ≡ true
seen_without id [] i distinct seen = rw (take-nil i) refl
seen_without id (slot ∷ slots) i distinct seen =
    let parts = and_parts (is_seen_record slot) (are_seen i slots) seen in
    by (is_record_of id slot) refl i parts.0 parts.1 (λ j. seen_without id slots j (rest_distinct slot slots distinct))
  where
    by : (b : Bool) → is_record_of id slot ≡ b → (i : ℕ) → is_seen_record slot ≡ true → are_seen i slots ≡ true
        → ((j : ℕ) → are_seen (suc j) slots ≡ true → are_seen j (without id slots) ≡ true)
        → are_seen i (cond (not b) (slot ∷ without id slots) (without id slots)) ≡ true
    by true is i own rest less = rw (without_none id slots (others id slot slots distinct is)) rest
    by false is zero own rest less = refl
    by false is (suc i) own rest less = and_from (is_seen_record slot) (are_seen i (without id slots)) own (less i rest)

pub seen_told : (id : List ℕ) (answer : Answer) (now : ℕ) (slots : List SlotState) (i : ℕ) → are_distinct slots ≡ true
    → are_seen i slots ≡ true → are_seen (i - 1) (after_answer_to id answer now slots) ≡ true
seen_told id answer now slots zero distinct seen = refl
seen_told id answer now slots (suc i) distinct seen = let less : suc i - 1 ≡ i = omega arith in
    rw less (by (is_over_in id answer slots))
  where
    by : (over : Bool)
        → are_seen i (cond over (without id slots) (with_changed id (after_answer answer now) slots)) ≡ true
    by true = seen_without id slots i distinct seen
    by false = seen_changed id (after_answer answer now) slots i (answer_seen answer now) (seen_less slots i seen)

-- the record found for an id is one of the id
found_own : (id : List ℕ) (slots : List SlotState) (slot : SlotState) → record_by_id id slots ≡ Some slot
    → is_record_of id slot ≡ true
found_own id [] slot is = grind arith
found_own id (first ∷ slots) slot is = grind (arith, found_own id slots slot)

pub at_position : (id : List ℕ) (slots : List SlotState) (position : ℕ) → slice_get slots position
    ≡ record_by_id id slots → true ≡ has_record_of id slots → is_place id position slots ≡ true
at_position id slots position is has =
    grind (arith, record_by_id, Option, SlotState, is_some, true≢false, is_record_of, found_own)

-- a start that may be ordered is for an id that has a record
pub can_found : (id : List ℕ) (ask : OrderKind) (now : ℕ) (slots : List SlotState) → can_ask id ask now slots ≡ true
    → false ≡ has_record_of id slots → ⊥
can_found id ask now slots can none = grind arith
