-- A state that keeps the rules can be represented in a text, if its seconds are in range.
use Rattle.core_text.proofs.CommonWords.{◌≡◌, refl, ℕ, ◌+◌, ◌^◌, ◌<◌, ◌≤◌, ◌==◌, Bool, true, false, ◌&&◌, cond, List}
use Rattle.core_text.proofs.CommonWords.{[], ◌∷◌, map, length, nat_le, Option, is_none, arith, list_all, and_parts}
use Rattle.core_text.proofs.CommonWords.{and_from, lt-ltb, le-leb, leb-true, eqb-true, Entry, is_id, id_parts}
use Rattle.core_text.proofs.CommonWords.{table_parts, parts, is_status, V2, holds_id, holds_table, is_table, is_written}
use Rattle.core_text.proofs.CommonWords.{CLOCK_LIMIT, HOLD, STARTS, Stop, record_of, state_of, are_starts}
use Rattle.core_text.proofs.CommonWords.{has_ranged_words, has_short_seconds, is_child, is_record, is_state, is_stop}
use Rattle.core_text.proofs.CommonWords.{is_time, passes}
use Rattle.init_words.specs.declared.ids.TheConstants.{ID_LIMIT}
use Rattle.inittab_text.specs.declared.tables.TheConstants.{ENTRY_LIMIT}
use Rattle.respawn_limit.specs.State.{LimiterState}
use Rattle.child_table.specs.State.{SlotState, child_number, is_limited_record}
use Rattle.child_table.specs.Times.{is_timely, is_stop_timely}
use Rattle.core_model.specs.Rules.{IsFit, is_hold_of, is_limit_kept, is_limiter_consistent, is_unused}
use Rattle.core_model.specs.Rules.{is_non_decreasing}
use Rattle.core_model.specs.State.{CoreState}
use Rattle.core_model.proofs.Kept.{rules_of}

-- a time up to the clock's limit, and the end of a hold
time_fits : (now time : ℕ) → now ≤ CLOCK_LIMIT → time ≤ now + HOLD → is_time time ≡ true
time_fits now time clock within = lt-ltb time (2 ^ 64) (omega (arith, clock, within))

past_fits : (now : ℕ) → now ≤ CLOCK_LIMIT → (time : ℕ) → nat_le time now ≡ true → is_time time ≡ true
past_fits now clock time within =
    time_fits now time clock (let h : time ≤ now = leb-true time now within in omega (arith, h))

times_fit : (now : ℕ) → now ≤ CLOCK_LIMIT → (times : List ℕ) → list_all (λ time. nat_le time now) times ≡ true
    → list_all is_time times ≡ true
times_fit now clock [] within = refl
times_fit now clock (time ∷ times) within =
    let parts = and_parts (nat_le time now) (list_all (λ t. nat_le t now) times) within in
    and_from (is_time time) (list_all is_time times) (past_fits now clock time parts.0)
    (times_fit now clock times parts.1)

stop_fits : (now : ℕ) → now ≤ CLOCK_LIMIT → (stop : Option Stop) → is_stop_timely now stop ≡ true
    → passes is_stop stop ≡ true
stop_fits now clock stop timely = grind arith

record LimiterFits (limiter : LimiterState) : Type 0 where
  held : passes is_time limiter.held ≡ true
  few : nat_le (length limiter.starts) STARTS ≡ true

limiter_fits : (now : ℕ) → now ≤ CLOCK_LIMIT → (limited : Bool) (limiter : LimiterState)
    → cond limited (is_limit_kept now limiter) (is_unused limiter) ≡ true → LimiterFits limiter
limiter_fits now clock true limiter plain =
    let outer = and_parts (nat_le (length limiter.starts) STARTS && is_non_decreasing limiter.starts)
    (is_hold_of now limiter limiter.held) plain in
    record {
      held = by limiter.held outer.1;
      few = (and_parts (nat_le (length limiter.starts) STARTS) (is_non_decreasing limiter.starts) outer.0).0;
    }
  where
    by : (held : Option ℕ) → is_hold_of now limiter held ≡ true → passes is_time held ≡ true
    by held h = grind arith
limiter_fits now clock false limiter plain =
    let parts = and_parts (length limiter.starts == 0) (is_none limiter.held) plain in
    record {
      held = by limiter.held parts.1;
      few = le-leb (length limiter.starts) STARTS
          (let none : length limiter.starts ≡ 0 = eqb-true (length limiter.starts) 0 parts.0 in omega (arith, none));
    }
  where
    by : (held : Option ℕ) → is_none held ≡ true → passes is_time held ≡ true
    by held h = grind arith

-- version 2 allows every id and every table
id_held : (id : List ℕ) → is_id id ≡ true → holds_id V2 id ≡ true
id_held id is = le-leb (length id) ID_LIMIT (id_parts id is).few

ids_held : (table : List Entry) → list_all is_written table ≡ true
    → list_all (λ (e : Entry). holds_id V2 e.id) table ≡ true
ids_held [] are = grind (arith, id_held, parts)
ids_held (e ∷ table) are = grind (arith, ids_held table, id_held, parts)

table_held : (table : List Entry) → is_table table ≡ true → holds_table V2 table ≡ true
table_held table is =
    let known = table_parts table is in
    and_from (nat_le (length table) ENTRY_LIMIT) (list_all (λ (e : Entry). holds_id V2 e.id) table)
    (le-leb (length table) ENTRY_LIMIT known.0) (ids_held table known.2)

record_ranged : (now : ℕ) → now ≤ CLOCK_LIMIT → (slot : SlotState) → is_limiter_consistent now slot ≡ true
    → is_timely now slot ≡ true → has_ranged_words slot ≡ true → is_record V2 (record_of slot) ≡ true
record_ranged now clock slot limiter timely ids =
    let fits = limiter_fits now clock (is_limited_record slot) slot.limiter limiter in
    let times =
    and_parts (list_all (λ start. nat_le start now) slot.limiter.starts) (is_stop_timely now slot.stop) timely in
    let words = and_parts (is_id slot.id && passes is_child (child_number slot)) (passes is_status slot.last) ids in
    let known = and_parts (is_id slot.id) (passes is_child (child_number slot)) words.0 in
    let own : (is_id slot.id && holds_id V2 slot.id) ≡ true =
    and_from (is_id slot.id) (holds_id V2 slot.id) known.0 (id_held slot.id known.0) in
    let starts : are_starts slot.limiter.starts ≡ true = and_from (nat_le (length slot.limiter.starts) STARTS)
    (list_all is_time slot.limiter.starts) fits.few (times_fit now clock slot.limiter.starts times.0) in
    and_from _ (are_starts slot.limiter.starts && passes is_status slot.last)
    (and_from _ (passes is_time slot.limiter.held)
    (and_from _ (passes is_stop slot.stop)
    (and_from (is_id slot.id && holds_id V2 slot.id) (passes is_child (child_number slot)) own known.1)
    (stop_fits now clock slot.stop times.1)) fits.held)
    (and_from (are_starts slot.limiter.starts) (passes is_status slot.last) starts words.1)

records_ranged : (now : ℕ) → now ≤ CLOCK_LIMIT → (slots : List SlotState)
    → list_all (is_limiter_consistent now) slots ≡ true → list_all (is_timely now) slots ≡ true
    → list_all has_ranged_words slots ≡ true → list_all (is_record V2) (map record_of slots) ≡ true
records_ranged now clock [] limiters timely ids = refl
records_ranged now clock (slot ∷ slots) limiters timely ids =
    let plain = and_parts (is_limiter_consistent now slot) (list_all (is_limiter_consistent now) slots) limiters in
    let past = and_parts (is_timely now slot) (list_all (is_timely now) slots) timely in
    let own = and_parts (has_ranged_words slot) (list_all has_ranged_words slots) ids in
    and_from (is_record V2 (record_of slot)) (list_all (is_record V2) (map record_of slots))
    (record_ranged now clock slot plain.0 past.0 own.0) (records_ranged now clock slots plain.1 past.1 own.1)

pub state_ranged : (c : CoreState) → IsFit c → 1 ≤ c.fields.generation → c.fields.generation < 2 ^ 64
    → c.fields.reexec ≡ false → has_short_seconds c ≡ true → is_table c.table ≡ true
    → list_all has_ranged_words c.slots ≡ true → is_state V2 (state_of c) ≡ true
state_ranged c fit some small reexec seconds table ids =
    grind (arith, rules_of, lt-ltb, le-leb, time_fits, table_held, records_ranged)
