-- What a view reports about an entry is what the past says.
use Rattle.trace_view.proofs.Words.{arith, ◌≡◌, refl, sym, ◌∙◌, ap, ℕ, Bool, true, false, ◌||◌, ◌&&◌, cond, List, find}
use Rattle.trace_view.proofs.Words.{Option, Some, None, option_map_or, Act, Entry, OrderKind, Stage, is_limited}
use Rattle.trace_view.proofs.Words.{entry_of, has_id, act_of, same_id-is, Event, table_of, stage_of, Child, is_child_of}
use Rattle.trace_view.proofs.Words.{kept_children, open_of, starts_now, is_wanted, is_excluded, was_booted, hold_times}
use Rattle.trace_view.proofs.Words.{is_held, is_full, newest, child_of, term_of, found_passes, Excluded, NoEntry}
use Rattle.trace_view.proofs.Words.{ChildKept, births_of, ran_early, was_named, ended_of, row_of, Wish, Wishes}
use Rattle.trace_view.proofs.Words.{is_excluded_by, number_of, entry_id, excluded_as, first_awaited, first_owed}
use Rattle.trace_view.proofs.Words.{standing_of, stops_now, why_entry, why, wishes_of, first_wish, first_wish_in}
use Rattle.std.specs.Option.{option_map}
use Rattle.trace_view.specs.declared.rows.Births.{Births}
use Rattle.trace_view.specs.declared.rows.Ending.{Ending}
use Rattle.trace_view.specs.declared.whys.Why.{Why}

-- six tests in a row
six : (fail fail_now ok a b c : Bool)
    → (fail || fail_now || ok || a || b || c) ≡ ((fail || (fail_now || (ok || false))) || (a || (b || (c || false))))
six true fail_now ok a b c = refl
six false true ok a b c = refl
six false false true a b c = refl
six false false false true b c = refl
six false false false false true c = refl
six false false false false false true = refl
six false false false false false false = refl

pub first_is : (w : Wishes) (past : List Event) → w ≡ wishes_of past → first_wish_in (stage_of past) w ≡ first_wish past
first_is w past is = grind arith

-- the entry of an id is found by its own id
pub found_own : (id : List ℕ) (table : List Entry) (e : Entry) → entry_of id table ≡ Some e
    → entry_of e.id table ≡ Some e
found_own id table e is =
    ap (λ i. entry_of i table) (sym (same_id-is id e.id (found_passes (has_id id) table e is))) ∙ is

-- the state of an entry, field by field
pub stands : (e : Entry) (past : List Event) (starts : Bool) (child : Option ℕ) (stops booted ran : Bool)
    (awaited : Option (List ℕ)) (order : Option OrderKind) (wanted named : Bool) (owed : Option (List ℕ))
    (excluded : Option Excluded) (wish : Option Wish) (hold : Option ℕ) (full : Bool) → starts ≡ starts_now e past
    → child ≡ option_map number_of (find (is_child_of e.id) (kept_children past)) → stops ≡ stops_now e.id past
    → booted ≡ was_booted past → ran ≡ ran_early e past → awaited ≡ option_map entry_id (first_awaited past)
    → order ≡ open_of e.id past → wanted ≡ is_wanted e past → named ≡ was_named e past → owed ≡ option_map entry_id
    (first_owed e.id past) → excluded ≡ option_map excluded_as (find (is_excluded past) (kept_children past))
    → wish ≡ first_wish past → hold ≡ cond (is_limited e.act && is_held e.id past) (newest (hold_times e.id past)) None
    → full ≡ (is_limited e.act && is_full e.id past) → record {
      starts = starts;
      child = child;
      stops = stops;
      booted = booted;
      ran = ran;
      awaited = awaited;
      order = order;
      wanted = wanted;
      named = named;
      owed = owed;
      excluded = excluded;
      wish = wish;
      hold = hold;
      full = full;
    } ≡ standing_of e past
stands e past starts child stops booted ran awaited order wanted named owed excluded wish hold full e1 e2 e3 e4 e5 e6 e7
    e8 e9 e10 e11 e12 e13 e14 = rw (e1, e2, e3, e4, e5, e6, e7, e8, e9, e10, e11, e12, e13, e14) refl

-- the excluded child, by the table and the stage in force
pub excluded_is : (table : List Entry) (stage : Option Stage) (kept : List Child) (past : List Event)
    → table ≡ table_of past → stage ≡ stage_of past → kept ≡ kept_children past → option_map excluded_as
    (find (is_excluded_by table stage) kept) ≡ option_map excluded_as (find (is_excluded past) (kept_children past))
excluded_is table stage kept past tables stages is = grind arith

pub wish_is : (stage : Option Stage) (w : Wishes) (past : List Event) → stage ≡ stage_of past → w ≡ wishes_of past
    → first_wish_in stage w ≡ first_wish past
wish_is stage w past stages is = ap (λ s. first_wish_in s w) stages ∙ first_is w past is

pub held_is : (limited held : Bool) (since : Option ℕ) (e : Entry) (past : List Event) → limited ≡ is_limited e.act
    → held ≡ is_held e.id past → since ≡ newest (hold_times e.id past) → cond (limited && held) since None
    ≡ cond (is_limited e.act && is_held e.id past) (newest (hold_times e.id past)) None
held_is limited held since e past limits holds times = grind arith

pub full_is : (limited full : Bool) (e : Entry) (past : List Event) → limited ≡ is_limited e.act
    → full ≡ is_full e.id past → (limited && full) ≡ (is_limited e.act && is_full e.id past)
full_is limited full e past limits fulls = ap (λ b. b && full) limits ∙ ap (λ b. is_limited e.act && b) fulls

-- an entry that starts in the stage and has a child is not started for that reason
pub kept_here : (e : Entry) (past : List Event) (starts : Bool) (kept : Option ℕ) (child : ℕ)
    → starts ≡ starts_now e past → kept ≡ option_map number_of (find (is_child_of e.id) (kept_children past))
    → Some child ≡ cond starts kept None → ChildKept child ≡ why_entry e past
kept_here e past starts kept child on is some = grind arith

-- the reason for an id is that for its entry
pub why_found : (id : List ℕ) (past : List Event) (e : Entry) → entry_of id (table_of past) ≡ Some e
    → why_entry e past ≡ why id past
why_found id past e found = sym (ap (λ o. option_map_or (λ x. why_entry x past) o NoEntry) found)

pub why_none : (id : List ℕ) (past : List Event) → entry_of id (table_of past) ≡ None → NoEntry ≡ why id past
why_none id past none = sym (ap (λ o. option_map_or (λ x. why_entry x past) o NoEntry) none)

-- whether a child is excluded, by the table and the stage in force
pub lives_not : (id : List ℕ) (table : List Entry) (stage : Option Stage) (some children : List Child) (past : List
    Event) → table ≡ table_of past → stage ≡ stage_of past → some ≡ children → option_map_or (is_excluded_by table
    stage) (find (is_child_of id) some) false ≡ option_map_or (is_excluded past) (find (is_child_of id) children) false
lives_not id table stage some children past tables stages is = grind arith

-- what is reported about an id, field by field
pub rows : (id : List ℕ) (past : List Event) (act : Option Act) (why_not : Why) (child : Option ℕ) (excluded : Bool)
    (births : Option Births) (order : Option OrderKind) (term : Option ℕ) (last : Option Ending)
    → act ≡ act_of id (table_of past) → why_not ≡ why id past → child ≡ option_map number_of (child_of id past)
    → excluded ≡ option_map_or (is_excluded past) (child_of id past) false → births ≡ births_of id past
    → order ≡ open_of id past → term ≡ term_of past (child_of id past) → last ≡ ended_of id past → record {
      act = act;
      why = why_not;
      child = child;
      excluded = excluded;
      births = births;
      order = order;
      term = term;
      last = last;
    } ≡ row_of id past
rows id past act why_not child excluded births order term last e1 e2 e3 e4 e5 e6 e7 e8 =
    rw (e1, e2, e3, e4, e5, e6, e7, e8) refl
