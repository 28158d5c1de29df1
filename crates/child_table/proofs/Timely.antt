-- No time in the records is later than now, and each change keeps that.
use Rattle.child_table.proofs.Words.{Bool, true, ◌≡◌, ◌≤◌, ◌-◌, ℕ, zero, suc, List, [], ◌∷◌, ◌++◌, map, filter, drop}
use Rattle.child_table.proofs.Words.{length, slice_get, nat_le, refl, arith, cond, Some, list_all, and_parts, and_from}
use Rattle.child_table.proofs.Words.{le-leb, STARTS, OrderKind, Answer, SlotState, is_stop_timely, is_timely}
use Rattle.child_table.proofs.Words.{are_timely, after_order, after_answer, is_record_of, changed, with_changed}
use Rattle.child_table.proofs.Words.{record_by_id, after_answer_to}
use Rattle.respawn_limit.specs.State.{LimiterState}
use Rattle.respawn_limit.specs.Window.{with_start}

-- the starts are no later than a limit
abbrev pub are_past : ℕ → List ℕ → Bool
are_past limit starts = list_all (λ start. nat_le start limit) starts

past_later : (now later : ℕ) → now ≤ later → (starts : List ℕ) → are_past now starts ≡ true
    → are_past later starts ≡ true
past_later now later h [] all = refl
past_later now later h (start ∷ starts) all = grind (arith, past_later now later h starts)

pub timely_parts : (now : ℕ) (slot : SlotState) → is_timely now slot ≡ true
    → (are_past now slot.limiter.starts ≡ true) × (is_stop_timely now slot.stop ≡ true)
timely_parts now slot h = and_parts (are_past now slot.limiter.starts) (is_stop_timely now slot.stop) h

pub timely_from : (now : ℕ) (slot : SlotState) → are_past now slot.limiter.starts ≡ true
    → is_stop_timely now slot.stop ≡ true → is_timely now slot ≡ true
timely_from now slot h k = and_from (are_past now slot.limiter.starts) (is_stop_timely now slot.stop) h k

pub timely_later : (now later : ℕ) → now ≤ later → (slots : List SlotState) → are_timely now slots ≡ true
    → are_timely later slots ≡ true
timely_later now later h [] all = refl
timely_later now later h (slot ∷ slots) all =
    grind (arith, timely_parts, timely_from, past_later, timely_later now later h slots)

-- a change that keeps each record's times within a limit keeps all of them within it
pub timely_map : (now : ℕ) (change : SlotState → SlotState)
    → ((slot : SlotState) → is_timely now slot ≡ true → is_timely now (change slot) ≡ true)
    → (slots : List SlotState) → are_timely now slots ≡ true → are_timely now (map change slots) ≡ true
timely_map now change keeps [] all = refl
timely_map now change keeps (slot ∷ slots) all = grind (arith, timely_map now change keeps slots)

chosen : (now : ℕ) (b : Bool) (x y : SlotState) → is_timely now x ≡ true → is_timely now y ≡ true
    → is_timely now (cond b x y) ≡ true
chosen now b x y h k = grind arith

pub timely_changed : (now : ℕ) (id : List ℕ) (change : SlotState → SlotState)
    → ((slot : SlotState) → is_timely now slot ≡ true → is_timely now (change slot) ≡ true)
    → (slots : List SlotState) → are_timely now slots ≡ true → are_timely now (with_changed id change slots) ≡ true
timely_changed now id change keeps slots all = timely_map now (changed id change)
    (λ slot h. chosen now (is_record_of id slot) (change slot) slot (keeps slot h) h) slots all

pub timely_filter : (now : ℕ) (p : SlotState → Bool) (slots : List SlotState) → are_timely now slots ≡ true
    → are_timely now (filter p slots) ≡ true
timely_filter now p [] all = refl
timely_filter now p (slot ∷ slots) all = grind (arith, timely_filter now p slots)

pub timely_push : (now : ℕ) (slots : List SlotState) (slot : SlotState) → are_timely now slots ≡ true
    → is_timely now slot ≡ true → are_timely now (slots ++ slot ∷ []) ≡ true
timely_push now [] slot all last = and_from (is_timely now slot) true last refl
timely_push now (first ∷ slots) slot all last = grind (arith, timely_push now slots slot)

-- the times of the record that was found are within the limit
pub timely_found : (now : ℕ) (id : List ℕ) (slot : SlotState) (slots : List SlotState) → are_timely now slots ≡ true
    → record_by_id id slots ≡ Some slot → is_timely now slot ≡ true
timely_found now id slot [] all is = absurd (cc)
timely_found now id slot (first ∷ slots) all is = grind (arith, timely_found now id slot slots)

pub timely_at : (now : ℕ) (slot : SlotState) (slots : List SlotState) (position : ℕ) → are_timely now slots ≡ true
    → slice_get slots position ≡ Some slot → is_timely now slot ≡ true
timely_at now slot [] position all is = absurd (cc)
timely_at now slot (first ∷ slots) zero all is = grind arith
timely_at now slot (first ∷ slots) (suc position) all is =
    timely_at now slot slots position (and_parts (is_timely now first) (are_timely now slots) all).1 is

past_pushed : (now limit : ℕ) → now ≤ limit → (starts : List ℕ) → are_past limit starts ≡ true
    → are_past limit (starts ++ now ∷ []) ≡ true
past_pushed now limit h [] all = and_from (nat_le now limit) true (le-leb now limit h) refl
past_pushed now limit h (start ∷ starts) all = grind (arith, past_pushed now limit h starts)

past_dropped : (limit n : ℕ) (starts : List ℕ) → are_past limit starts ≡ true → are_past limit (drop n starts) ≡ true
past_dropped limit zero starts all = all
past_dropped limit (suc n) [] all = refl
past_dropped limit (suc n) (start ∷ starts) all =
    past_dropped limit n starts (and_parts (nat_le start limit) (are_past limit starts) all).1

started : (now limit : ℕ) → now ≤ limit → (limiter : LimiterState) → are_past limit limiter.starts ≡ true
    → are_past limit (with_start limiter now).starts ≡ true
started now limit h limiter all = past_dropped limit (length (limiter.starts ++ now ∷ []) - STARTS)
    (limiter.starts ++ now ∷ []) (past_pushed now limit h limiter.starts all)

-- an order or an answer at a time within the limit keeps a record's times within it
pub timely_order : (ask : OrderKind) (now limit : ℕ) → now ≤ limit → (slot : SlotState) → is_timely limit slot ≡ true
    → is_timely limit (after_order ask now slot) ≡ true
timely_order ask now limit h slot all = grind (arith, timely_parts, timely_from, started)

pub timely_answer : (answer : Answer) (now limit : ℕ) → now ≤ limit → (slot : SlotState) → is_timely limit slot ≡ true
    → is_timely limit (after_answer answer now slot) ≡ true
timely_answer answer now limit h slot all = grind arith

-- answers keep the times of all records within the limit
pub timely_told : (id : List ℕ) (answer : Answer) (now limit : ℕ) → now ≤ limit → (slots : List SlotState)
    → are_timely limit slots ≡ true → are_timely limit (after_answer_to id answer now slots) ≡ true
timely_told id answer now limit h slots all = grind (arith, timely_filter, timely_changed, timely_answer)
