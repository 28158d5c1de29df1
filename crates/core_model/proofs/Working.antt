-- Each step that is decided decreases the work left, by the state alone.
use Rattle.core_model.proofs.Words.{Bool, true, false, ◌≡◌, ◌&&◌, ◌<◌, ◌≤◌, ℕ, suc, List, [], ◌∷◌, map, filter, length}
use Rattle.core_model.proofs.Words.{Some, refl, sym, ap, arith, false≢true, and_parts, and_from, ltb-true, not-true}
use Rattle.core_model.proofs.Words.{nat_tests, Entry, Level, Letter, Stage, OrderKind, PowerKind, any_less, Step}
use Rattle.core_model.proofs.Words.{Reread, Order, Reexec, Idle, SlotState, IsInOrder, can_be_asked, after_order}
use Rattle.core_model.proofs.Words.{is_record_of, changed, with_changed, CallSet, news_count, contains_kind}
use Rattle.core_model.proofs.Words.{contains_letter}
use Rattle.core_model.proofs.Words.{with_kind, with_call, CoreState, called_if, with_called, is_named, after_step}
use Rattle.core_model.proofs.Words.{decide, stages_left, enters_left, unasked, unheld, work_left}
use Rattle.trace_events.specs.declared.steps.Step.TheVariants.{Enter, Call, Power, Hold, Settle}
use Rattle.trace_events.specs.Run.{is_rest}
use Rattle.core_model.proofs.Allowed.{has_with, has_asked, has_unheld, is_backed, decided}

-- a change of the records of an id that removes one from those that count, and adds none
fewer : (p : SlotState → Bool) (id : List ℕ) (change : SlotState → SlotState)
    → ((slot : SlotState) → p (change slot) ≡ false) → (slots : List SlotState)
    → length (filter p (with_changed id change slots)) ≤ length (filter p slots)
fewer p id change out [] = grind arith
fewer p id change out (slot ∷ slots) = grind (arith, fewer p id change out slots)

one_fewer : (p : SlotState → Bool) (id : List ℕ) (change : SlotState → SlotState)
    → ((slot : SlotState) → p (change slot) ≡ false) → (slots : List SlotState) → has_with id p slots ≡ true
    → length (filter p (with_changed id change slots)) < length (filter p slots)
one_fewer p id change out [] there = grind (arith, fewer, has_with)
one_fewer p id change out (slot ∷ slots) there = grind (arith, one_fewer p id change out slots, fewer, has_with)

-- a change that does not affect which records count
as_many : (p : SlotState → Bool) (change : SlotState → SlotState) → ((slot : SlotState) → p (change slot)
    ≡ p slot) → (slots : List SlotState) → length (filter p (map change slots)) ≡ length (filter p slots)
as_many p change same [] = grind arith
as_many p change same (slot ∷ slots) = grind (arith, as_many p change same slots)

length-filter-le : (p : SlotState → Bool) (slots : List SlotState) → length (filter p slots) ≤ length slots
length-filter-le p [] = grind arith
length-filter-le p (slot ∷ slots) = grind (arith, length-filter-le p slots)

length-map : (f : SlotState → SlotState) (slots : List SlotState) → length (map f slots) ≡ length slots
length-map f [] = refl
length-map f (slot ∷ slots) = ap (λ n. suc n) (length-map f slots)

-- a record for which an order may be given has none open, and has one afterwards; holds stay
asked_free : (ask : OrderKind) (now : ℕ) (slot : SlotState) → can_be_asked ask now slot ≡ true → unasked slot ≡ true
asked_free ask now slot h = grind arith

order_asked : (ask : OrderKind) (now : ℕ) (slot : SlotState) → unasked (after_order ask now slot) ≡ false
order_asked ask now slot = grind arith

order_unheld : (ask : OrderKind) (now time : ℕ) (slot : SlotState)
    → unheld time (after_order ask now slot) ≡ unheld time slot
order_unheld ask now time slot = grind arith

one_same : (id : List ℕ) (change : SlotState → SlotState) (p : SlotState → Bool)
    → ((slot : SlotState) → p (change slot) ≡ p slot) → (slot : SlotState) → p (changed id change slot) ≡ p slot
one_same id change p same slot = grind arith

-- an order for a record without one decreases the work left
order_falls : (id : List ℕ) (ask : OrderKind) (c : CoreState) → has_with id (can_be_asked ask c.fields.time) c.slots
    ≡ true → work_left (after_step (Order id ask) c) < work_left c
order_falls id ask c there =
    let free : has_with id unasked c.slots ≡ true = any_less (λ (s : SlotState). is_record_of id s
    && can_be_asked ask c.fields.time s) (λ (s : SlotState). is_record_of id s && unasked s)
    (λ s both. let parts = and_parts (is_record_of id s) (can_be_asked ask c.fields.time s) both in
    and_from (is_record_of id s) (unasked s) parts.0 (asked_free ask c.fields.time s parts.1)) c.slots there in
    let less : length (filter unasked (with_changed id (after_order ask c.fields.time) c.slots))
    < length (filter unasked c.slots) =
    one_fewer unasked id (after_order ask c.fields.time) (order_asked ask c.fields.time) c.slots free in
    let same : length (filter (unheld c.fields.time) (with_changed id (after_order ask c.fields.time) c.slots))
    ≡ length (filter (unheld c.fields.time) c.slots) =
    as_many (unheld c.fields.time) (changed id (after_order ask c.fields.time)) (one_same id
    (after_order ask c.fields.time) (unheld c.fields.time) (order_unheld ask c.fields.time c.fields.time)) c.slots in
    let long : length (with_changed id (after_order ask c.fields.time) c.slots) ≡ length c.slots =
    length-map (changed id (after_order ask c.fields.time)) c.slots in
    rw (same, long) (omega arith)

-- a hold of an entry that was not held decreases the work left
hold_falls : (id : List ℕ) (c : CoreState) → has_with id (unheld c.fields.time) c.slots ≡ true
    → work_left (after_step (Hold id) c) < work_left c
hold_falls id c there = grind (arith, nat_tests, one_fewer, as_many, one_same, length-map)

settle_falls : (level : Level) (c : CoreState) → c.fields.announced ≡ false
    → work_left (after_step (Settle level) c) < work_left c
settle_falls level c is = rw is (omega arith)

-- entering a stage leaves one stage less to come, whatever happens to its records
enter_falls : (next : Stage) (grace : ℕ) (c : CoreState) → suc (stages_left (Some next)) ≤ enters_left c
    → work_left (after_step (Enter next grace) c) < work_left c
enter_falls next grace c fewer_stages = grind (arith, length-map, length-filter-le)

-- a call that is carried out is no longer pending, and the entries that it calls lose no order and no hold
called_same : {X : Type 0} (p : SlotState → X) → ((slot : SlotState) → p (called_if true slot) ≡ p slot)
    → (b : Bool) (slot : SlotState) → p (called_if b slot) ≡ p slot
called_same p same true slot = same slot
called_same p same false slot = refl

called_falls : (named : Entry → Bool) (pending : CallSet) (c : CoreState)
    → news_count pending < news_count c.fields.pending → work_left (record
    c { slots = with_called named c.table c.slots; fields = record c.fields { pending = pending } }) < work_left c
called_falls named pending c fewer_news = grind (arith, as_many, called_same, length-map)

kind_falls : (kind : PowerKind) (pending : CallSet) → contains_kind kind pending ≡ true
    → news_count (with_kind kind false pending) < news_count pending
kind_falls kind pending is = grind arith

call_falls : (l : Letter) (pending : CallSet) → contains_letter l pending ≡ true
    → news_count (with_call l false pending) < news_count pending
call_falls l pending is = grind arith

-- each step that is decided decreases the work left
pub decide_falls : (c : CoreState) → IsInOrder c.table c.slots → is_rest (decide c) ≡ false
    → work_left (after_step (decide c) c) < work_left c
decide_falls c order busy = at (decide c) (decided c order (decide c) refl) busy
  where
    at : (s : Step) → is_backed c c.slots (Some s) ≡ true → is_rest s ≡ false → work_left (after_step s c) < work_left c
    at (Order id ask) backed b = order_falls id ask c (has_asked id ask c.fields.time c.slots backed)
    at (Hold id) backed b = hold_falls id c (has_unheld id c.fields.time c.slots backed)
    at (Enter next grace) backed b =
        enter_falls next grace c (ltb-true (stages_left (Some next)) (enters_left c) backed)
    at (Settle level) backed b = settle_falls level c (not-true c.fields.announced backed)
    at (Power kind) backed b = called_falls (is_named (Power kind) c.fields.stage)
        (with_kind kind false c.fields.pending) c (kind_falls kind c.fields.pending backed)
    at (Call l) backed b = called_falls (is_named (Call l) c.fields.stage) (with_call l false c.fields.pending) c
        (call_falls l c.fields.pending backed)
    at Reread backed b = absurd (false≢true (sym b))
    at Reexec backed b = absurd (false≢true (sym b))
    at Idle backed b = absurd (false≢true (sym b))
