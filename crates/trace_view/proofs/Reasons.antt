-- There is no reason against starting an entry exactly if its start is due.
use Rattle.trace_view.proofs.Words.{arith, ◌≡◌, refl, sym, ◌∙◌, ap, ℕ, Bool, true, false, not, ◌&&◌, ◌||◌, cond, List}
use Rattle.trace_view.proofs.Words.{[], ◌∷◌, Option, Some, None, is_none, is_some, list_any, option_map_or, and_parts}
use Rattle.trace_view.proofs.Words.{not-true, list_any-append, Act, Entry, OrderKind, Start, Stage, wanted_by}
use Rattle.trace_view.proofs.Words.{is_limited, same_id, same_id-is, and_false, find_none, none_found, entry_of, has_id}
use Rattle.trace_view.proofs.Words.{is_distinct, Goal, Event, table_of, stage_of, has_child, open_of, kept_children}
use Rattle.trace_view.proofs.Words.{starts_now, has_no_running_child, is_asked, is_called, is_owed, entries_before}
use Rattle.trace_view.proofs.Words.{hold_times}
use Rattle.trace_view.proofs.Words.{is_held, is_full, wants_reexec, wants_reread, level_wish, in_run, are_calls_pending}
use Rattle.trace_view.proofs.Words.{is_request_pending, newest, found_passes, Excluded, Standing, Wish, NoEntry}
use Rattle.trace_view.proofs.Words.{WindowFull}
use Rattle.trace_view.proofs.Words.{Nothing, first_of, first_wish, standing_of, not_here, not_wanted, why_by, why_entry}
use Rattle.trace_view.proofs.Words.{why, is_nothing}
use Rattle.trace_events.specs.declared.steps.Step.{Step}
use Rattle.trace_events.specs.declared.steps.Step.TheVariants.{Order, Hold}
use Rattle.trace_events.specs.Due.{steps_if, none_excluded, can_start, start_steps, starts_among, due_starts, same_step}

module _ (id : List ℕ) (past : List Event) where
  abbrev start : Step
  start = Order id Start

  -- the respawn limit allows a start of the entry
  abbrev is_let : Entry → Bool
  is_let e = not (is_limited e.act) || not (is_held e.id past) && not (is_full e.id past)

  abbrev is_first : List Entry → Bool
  is_first es = not (list_any (λ x. is_owed x past) (entries_before id es))

  one_of : (e : Entry) (b limited held full : Bool) → same_id id e.id ≡ b → list_any (same_step start)
      (cond limited (steps_if (not held) (cond full (Hold e.id) (Order e.id Start) ∷ [])) (Order e.id Start ∷ []))
      ≡ (b && (not limited || not held && not full))
  one_of e true false held full same = rw same refl
  one_of e false false held full same = rw same refl
  one_of e b true true full same = sym (and_false b)
  one_of e b true false true same = sym (and_false b)
  one_of e true true false false same = rw same refl
  one_of e false true false false same = rw same refl

  of_entry : (e : Entry) (b can : Bool) → same_id id e.id ≡ b
      → list_any (same_step start) (steps_if can (start_steps e past)) ≡ (can && (b && is_let e))
  of_entry e b true same = one_of e b (is_limited e.act) (is_held e.id past) (is_full e.id past) same
  of_entry e b false same = refl

  abbrev may_start : List Entry → Entry → Bool
  may_start es e = can_start e past && is_let e && is_first es

  -- whether an earlier entry is owed, at the id's entry and at another one
  first_own : (e : Entry) (es : List Entry) → same_id id e.id ≡ true → is_first (e ∷ es) ≡ true
  first_own e es same = ap (λ b. not (list_any (λ x. is_owed x past) (cond b [] (e ∷ entries_before id es)))) same

  first_other : (e : Entry) (es : List Entry) → same_id id e.id ≡ false
      → is_first (e ∷ es) ≡ not (is_owed e past || list_any (λ x. is_owed x past) (entries_before id es))
  first_other e es differ = ap (λ b. not (list_any (λ x. is_owed x past) (cond b [] (e ∷ entries_before id es)))) differ

  cond_none : (owed : Bool) → cond owed false false ≡ false
  cond_none true = refl
  cond_none false = refl

  or_end : (x : Bool) → (x || false) ≡ (x && true)
  or_end true = refl
  or_end false = refl

  here : (e : Entry) (es : List Entry) (can later : Bool) → later ≡ false → same_id id e.id ≡ true
      → (can && is_let e || later) ≡ (can && is_let e && is_first (e ∷ es))
  here e es can later none same = ap (λ b. can && is_let e || b) none ∙ or_end (can && is_let e)
      ∙ sym (ap (λ b. can && is_let e && b) (first_own e es same))

  not_or : (can owed later : Bool) → cond owed false (can && not later) ≡ (can && not (owed || later))
  not_or true true later = refl
  not_or false true later = refl
  not_or can false later = refl

  further : (e : Entry) (es : List Entry) (o : Option Entry) → same_id id e.id ≡ false
      → cond (is_owed e past) false (option_map_or (may_start es) o false) ≡ option_map_or (may_start (e ∷ es)) o false
  further e es o differ = grind (arith, cond_none, not_or, first_other)

  cond_any : (owed : Bool) (steps : List Step)
      → list_any (same_step start) (cond owed [] steps) ≡ cond owed false (list_any (same_step start) steps)
  cond_any true steps = refl
  cond_any false steps = refl

  among : (es : List Entry) → is_distinct es ≡ true
      → list_any (same_step start) (starts_among es past) ≡ option_map_or (may_start es) (entry_of id es) false
  among [] distinct = refl
  among (e ∷ es) distinct = list_any-append (same_step start) (steps_if (can_start e past) (start_steps e past))
      (cond (is_owed e past) [] (starts_among es past)) ∙ split (same_id id e.id) refl (among es parts.1) where
        parts : (not (list_any (has_id e.id) es) ≡ true) × (is_distinct es ≡ true)
        parts = and_parts (not (list_any (has_id e.id) es)) (is_distinct es) distinct

        absent : same_id id e.id ≡ true → entry_of id es ≡ None
        absent same = find_none (has_id id) es
            (ap (λ i. list_any (has_id i) es) (same_id-is id e.id same) ∙ not-true (list_any (has_id e.id) es) parts.0)

        first : Bool
        first = list_any (same_step start) (steps_if (can_start e past) (start_steps e past))

        later : Bool
        later = list_any (same_step start) (cond (is_owed e past) [] (starts_among es past))

        rest_is : list_any (same_step start) (starts_among es past)
            ≡ option_map_or (may_start es) (entry_of id es) false
            → later ≡ cond (is_owed e past) false (option_map_or (may_start es) (entry_of id es) false)
        rest_is rest = cond_any (is_owed e past) (starts_among es past) ∙ ap (λ b. cond (is_owed e past) false b) rest

        split : (b : Bool) → same_id id e.id ≡ b
            → list_any (same_step start) (starts_among es past) ≡ option_map_or (may_start es) (entry_of id es) false
            → (first || later) ≡ option_map_or (may_start (e ∷ es)) (cond b (Some e) (entry_of id es)) false
        split true same rest = grind (arith, later, rest_is, absent, cond_none, of_entry, here)
        split false differ rest =
            ap (λ b. b || later) (of_entry e false (can_start e past) differ ∙ and_false (can_start e past))
            ∙ rest_is rest ∙ further e es (entry_of id es) differ

nobody_here : (action : Act) (stage : Option Stage) (s : Standing) → is_nothing (not_here action stage s) ≡ false
nobody_here action stage s = grind arith

nobody_asks : (action : Act) (named : Bool) → is_nothing (not_wanted action named) ≡ false
nobody_asks action named = grind arith

last_of_all : (full : Bool) → is_nothing (cond full WindowFull Nothing) ≡ not full
last_of_all true = refl
last_of_all false = refl

nothing_by : (action : Act) (stage : Option Stage) (starts : Bool) (child : Option ℕ) (stops booted ran : Bool)
    (awaited : Option (List ℕ)) (order : Option OrderKind) (wanted named : Bool) (owed : Option (List ℕ)) (excluded :
    Option Excluded) (wish : Option Wish) (hold : Option ℕ) (full : Bool) → is_nothing (why_by action stage (record {
      starts = starts;
      child = child;
      stops = stops;
      booted = booted;
      ran = ran;
      awaited = awaited;
      order = order;
      wanted = wanted;
      named = named;
      owed = owed;
      excluded = excluded;
      wish = wish;
      hold = hold;
      full = full;
    })) ≡ (starts && is_none child && is_none order && wanted && is_none owed && is_none excluded && is_none wish
    && is_none hold && not full)
nothing_by action stage false child stops booted ran awaited order wanted named owed excluded wish hold full =
    nobody_here action stage (record {
      starts = false;
      child = child;
      stops = stops;
      booted = booted;
      ran = ran;
      awaited = awaited;
      order = order;
      wanted = wanted;
      named = named;
      owed = owed;
      excluded = excluded;
      wish = wish;
      hold = hold;
      full = full;
    })
nothing_by action stage true (Some child) stops booted ran awaited order wanted named owed excluded wish hold full =
    refl
nothing_by action stage true None stops booted ran awaited (Some order) wanted named owed excluded wish hold full = refl
nothing_by action stage true None stops booted ran awaited None false named owed excluded wish hold full =
    nobody_asks action named
nothing_by action stage true None stops booted ran awaited None true named (Some owed) excluded wish hold full = refl
nothing_by action stage true None stops booted ran awaited None true named None (Some excluded) wish hold full = refl
nothing_by action stage true None stops booted ran awaited None true named None None (Some wish) hold full = refl
nothing_by action stage true None stops booted ran awaited None true named None None None (Some hold) full = refl
nothing_by action stage true None stops booted ran awaited None true named None None None None full = last_of_all full

-- a request is pending exactly if there is a first pending one
first_stands : (past : List Event) → is_none (first_wish past) ≡ not (is_request_pending past)
first_stands past =
    split (wants_reexec past) (wants_reread past) (level_wish past) (in_run (stage_of past) && are_calls_pending past)
  where
    split : (reexec reread : Bool) (level : Option Goal) (news : Bool)
        → is_none (first_of reexec reread level news) ≡ not (reexec || reread || is_some level || news)
    split true reread level news = refl
    split false true level news = refl
    split false false (Some level) news = refl
    split false false None true = refl
    split false false None false = refl

-- a hold in force has a time
held_some : (p : ℕ → Bool) (ts : List ℕ) → list_any p ts ≡ true → is_none (newest ts) ≡ false
held_some p ts h = grind arith

hold_none : (id : List ℕ) (past : List Event) (limited held : Bool) → is_held id past ≡ held
    → is_none (cond (limited && held) (newest (hold_times id past)) None) ≡ not (limited && held)
hold_none id past false held is = refl
hold_none id past true false is = refl
hold_none id past true true is = held_some _ (hold_times id past) is

-- the same tests in another order
limit_tests : (limited held full : Bool)
    → (not (limited && held) && not (limited && full)) ≡ (not limited || not held && not full)
limit_tests true held full = refl
limit_tests false held full = refl

last_two : (a b c : Bool) → (a && b && c) ≡ (a && (b && c))
last_two true b c = refl
last_two false b c = refl

four : (first spared calm lets : Bool) → (first && spared && calm && lets) ≡ (calm && spared && (lets && first))
four true true true true = refl
four true true true false = refl
four true true false lets = refl
four true false true lets = refl
four true false false lets = refl
four false spared calm true = sym (and_false (calm && spared))
four false spared calm false = sym (and_false (calm && spared))

turned : (starts asks childless unasked first spared calm lets : Bool)
    → (starts && childless && unasked && (starts && asks) && first && spared && calm && lets)
    ≡ (calm && spared && (starts && asks && childless && unasked && lets && first))
turned false asks childless unasked first spared calm lets = sym (and_false (calm && spared))
turned true false false unasked first spared calm lets = sym (and_false (calm && spared))
turned true false true false first spared calm lets = sym (and_false (calm && spared))
turned true false true true first spared calm lets = sym (and_false (calm && spared))
turned true true false unasked first spared calm lets = sym (and_false (calm && spared))
turned true true true false first spared calm lets = sym (and_false (calm && spared))
turned true true true true first spared calm lets = four first spared calm lets

if_any : (p : Step → Bool) (b : Bool) (steps : List Step) → list_any p (steps_if b steps) ≡ (b && list_any p steps)
if_any p true steps = refl
if_any p false steps = refl

-- there is no reason against starting an entry exactly if it may start
module _ (past : List Event) (e : Entry) where
  abbrev starts : Bool
  starts = starts_now e past

  abbrev childless : Bool
  childless = not (has_child e.id (kept_children past))

  abbrev unasked : Bool
  unasked = is_none (open_of e.id past)

  abbrev ahead : Bool
  ahead = is_first e.id past (table_of past)

  abbrev spared : Bool
  spared = none_excluded past

  abbrev calm : Bool
  calm = not (is_request_pending past)

  abbrev limited : Bool
  limited = is_limited e.act

  abbrev held : Bool
  held = is_held e.id past

  abbrev full : Bool
  full = is_full e.id past

  abbrev asks : Bool
  asks = wanted_by e.act (has_no_running_child e.id past) (not (is_asked e.id past)) (is_called e past)

  abbrev s : Standing
  s = standing_of e past

  by_entry : is_nothing (why_entry e past) ≡ (calm && spared && may_start e.id past (table_of past) e)
  by_entry = grind (arith, nothing_by, none_found, first_stands, hold_none, last_two, limit_tests, turned)

pub nothing_due : (id : List ℕ) (past : List Event) → is_distinct (table_of past) ≡ true
    → is_nothing (why id past) ≡ list_any (same_step (Order id Start)) (due_starts past)
nothing_due id past distinct = split (entry_of id (table_of past)) refl ∙ sym (if_any (same_step (Order id Start))
    (not (is_request_pending past) && none_excluded past) (starts_among (table_of past) past)
    ∙ ap (λ b. not (is_request_pending past) && none_excluded past && b) (among id past (table_of past) distinct)) where
      table : List Entry
      table = table_of past

      split : (o : Option Entry) → entry_of id table ≡ o
          → is_nothing (option_map_or (λ e. why_entry e past) o NoEntry)
          ≡ (not (is_request_pending past) && none_excluded past
          && option_map_or (may_start id past table) (entry_of id table) false)
      split None is = sym (ap (λ o. not (is_request_pending past) && none_excluded past
          && option_map_or (may_start id past table) o false) is
          ∙ and_false (not (is_request_pending past) && none_excluded past))
      split (Some e) is =
          by_entry past e
          ∙ ap (λ i. not (is_request_pending past) && none_excluded past && may_start i past table e)
          (sym (same_id-is id e.id (found_passes (has_id id) table e is)))
          ∙ sym
          (ap (λ o. not (is_request_pending past) && none_excluded past
          && option_map_or (may_start id past table) o false) is)
