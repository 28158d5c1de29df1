-- The laws on two happenings of a sound trace and what comes between them.
use Rattle.trace_laws.proofs.Words.{◌≡◌, ◌≤◌, ◌+◌, ◌-◌, refl, ◌∙◌, ap, ℕ, Bool, true, false, not, ◌&&◌, ◌||◌, ◌==◌}
use Rattle.trace_laws.proofs.Words.{cond, nat_le, List, [], ◌∷◌, ◌++◌, filter, drop, zero, suc, arith, append_assoc}
use Rattle.trace_laws.proofs.Words.{list_any, list_all, option_map_or, false≢true, and_parts, and_from, or_left}
use Rattle.trace_laws.proofs.Words.{or_right, leb-true, not-true, HOLD, STARTS, WINDOW, Entry, OrderKind, Start}
use Rattle.trace_laws.proofs.Words.{same_id, act_of, NewTable, Asked, Birth, Reaped, Hit, Goal, Event, table_of}
use Rattle.trace_laws.proofs.Words.{time_of, is_child_of, is_child, has_child, newborn, unreaped_children}
use Rattle.trace_laws.proofs.Words.{known_children}
use Rattle.trace_laws.proofs.Words.{is_excluded, start_times, hold_times, is_held, is_full, is_limited, is_sound}
use Rattle.trace_laws.proofs.Words.{is_limited_id, targets, is_spaced, same_id-self, both_ways, any_less, filter_none}
use Rattle.trace_laws.specs.Stretches.{is_steady, count_starts, is_order_of, is_reaping_of}
use Rattle.std.proofs.Common.{eq-eqb}
use Rattle.trace_events.specs.declared.happenings.Happening.TheVariants.{Enter, Hold}
use Rattle.trace_laws.proofs.Births.{birth_alone}
use Rattle.trace_laws.proofs.Limits.{hold_due}
use Rattle.trace_laws.proofs.Pace.{start_paced}
use Rattle.trace_laws.proofs.Targets.{hit_own}
use Rattle.trace_laws.proofs.Agreement.{reaped_pair}

-- reassociates a trace around its earlier happening
earlier : (goal : Goal) (later : List Event) (next : Event) (between : List Event) (first : Event) (past : List Event)
    → is_sound goal (later ++ next ∷ (between ++ first ∷ past)) ≡ true
    → is_sound goal ((later ++ next ∷ between) ++ first ∷ past) ≡ true
earlier goal later next between first past h =
    ap (is_sound goal) (append_assoc later (next ∷ between) (first ∷ past)) ∙ h

-- a child that is not reaped in a stretch is unreaped after it
stays : (id : List ℕ) (n : ℕ) (between past : List Event) → list_any (is_reaping_of id n) between ≡ false
    → list_any (is_child id n) (unreaped_children past) ≡ true
    → list_any (is_child id n) (unreaped_children (between ++ past)) ≡ true
stays id n [] past none there = there
stays id n (Birth i m ∷ between) past none there = or_right (is_child id n (newborn i m (between ++ past)))
    (list_any (is_child id n) (unreaped_children (between ++ past))) (stays id n between past none there)
stays id n (Reaped i m status ∷ between) past none there = grind (arith, reaped_pair, stays id n between past)
stays id n (_ ∷ between) past none there = stays id n between past none there

-- between two births of an id the first child is reaped
pub reaped_between : (goal : Goal) (later between past : List Event) (id : List ℕ) (n m : ℕ) → is_sound goal
    (later ++ Birth id n ∷ (between ++ Birth id m ∷ past)) ≡ true → list_any (is_reaping_of id m) between ≡ true
reaped_between goal later between past id n m h = found (list_any (is_reaping_of id m) between) refl where
  first : list_any (is_child id m) (unreaped_children (Birth id m ∷ past)) ≡ true
  first = or_left (is_child id m (newborn id m past)) (list_any (is_child id m) (unreaped_children past))
      (and_from (same_id id id) (m == m) (same_id-self id) (eq-eqb m m refl))

  found : (b : Bool) → list_any (is_reaping_of id m) between ≡ b → b ≡ true
  found true is = refl
  found false none = both_ways (has_child id (unreaped_children (between ++ Birth id m ∷ past)))
      (any_less (is_child id m) (is_child_of id)
      (λ child own. (and_parts (same_id id child.id) (m == child.number) own).0)
      (unreaped_children (between ++ Birth id m ∷ past)) (stays id m between (Birth id m ∷ past) none first))
      (not-true (has_child id (unreaped_children (between ++ Birth id m ∷ past)))
      (birth_alone goal later id n (between ++ Birth id m ∷ past) h))

-- a steady stretch does not change the table
steady_table : (between past : List Event) → is_steady between ≡ true → table_of (between ++ past) ≡ table_of past
steady_table [] past steady = refl
steady_table (NewTable table ∷ between) past steady = absurd (false≢true steady)
steady_table (Enter stage grace ∷ between) past steady = absurd (false≢true steady)
steady_table (_ ∷ between) past steady = steady_table between past steady

-- the hold times after a steady stretch include the time of a hold before it
hold_among : (p : ℕ → Bool) (id : List ℕ) (between past : List Event) → is_steady between ≡ true
    → list_all p (hold_times id (between ++ Hold id ∷ past)) ≡ true → p (time_of past) ≡ true
hold_among p id [] past steady all = grind (arith, same_id-self)
hold_among p id (NewTable table ∷ between) past steady all = absurd (false≢true steady)
hold_among p id (Enter stage grace ∷ between) past steady all = absurd (false≢true steady)
hold_among p id (Hold i ∷ between) past steady all = grind (arith, hold_among p id between past)
hold_among p id (_ ∷ between) past steady all = hold_among p id between past steady all

-- the respawn limit applies to the id in a table
abbrev limited_in : List ℕ → List Entry → Bool
limited_in id table = option_map_or is_limited (act_of id table) false

-- what the pace test implies for an id to which the respawn limit applies
limited_pace : (id : List ℕ) (past : List Event) (b : Bool) → b ≡ true → (not b || is_spaced (time_of past)
    (start_times id past) && list_all (λ began. nat_le (began + HOLD) (time_of past)) (hold_times id past)) ≡ true
    → (is_spaced (time_of past) (start_times id past) ≡ true)
    × (list_all (λ began. nat_le (began + HOLD) (time_of past)) (hold_times id past) ≡ true)
limited_pace id past b limited h = grind arith

-- with no new stage or table in between, a start comes at least five minutes after a hold
pub rested : (goal : Goal) (later between past : List Event) (id : List ℕ)
    → is_sound goal (later ++ Asked id Start ∷ (between ++ Hold id ∷ past)) ≡ true → is_steady between ≡ true
    → time_of past + HOLD ≤ time_of (between ++ Hold id ∷ past)
rested goal later between past id h steady = leb-true (time_of past + HOLD) (time_of all)
    (hold_among (λ began. nat_le (began + HOLD) (time_of all)) id between past steady
    (limited_pace id all (is_limited_id id all) limited (start_paced goal later id all h)).1) where
      all : List Event
      all = between ++ Hold id ∷ past

      was : is_limited_id id past ≡ true
      was = (and_parts (is_limited_id id past) (not (is_held id past))
          (and_parts (is_limited_id id past && not (is_held id past)) (is_full id past) (hold_due goal
          (later ++ Asked id Start ∷ between) id past
          (earlier goal later (Asked id Start) between (Hold id) past h))).0).0

      limited : is_limited_id id all ≡ true
      limited = ap (λ table. limited_in id table) (steady_table between (Hold id ∷ past) steady) ∙ was

-- the start times after a steady stretch include the time of a start before it, after those of the stretch
start_among : (p : ℕ → Bool) (id : List ℕ) (between past : List Event) (k : ℕ) → is_steady between ≡ true
    → k ≤ count_starts id between → list_all p (drop k (start_times id (between ++ Asked id Start ∷ past))) ≡ true
    → p (time_of past) ≡ true
start_among p id [] past k steady less all = at_id (same_id id id) (same_id-self id) k less all where
  at_id : (b : Bool) → b ≡ true → (k : ℕ) → k ≤ 0 → list_all p
      (drop k (cond b (time_of past ∷ start_times id past) (start_times id past))) ≡ true → p (time_of past) ≡ true
  at_id true own zero less all = (and_parts (p (time_of past)) (list_all p (start_times id past)) all).0
  at_id true own (suc k) less all = absurd (omega arith)
  at_id false own k less all = absurd (false≢true own)
start_among p id (NewTable table ∷ between) past k steady less all = absurd (false≢true steady)
start_among p id (Enter stage grace ∷ between) past k steady less all = absurd (false≢true steady)
start_among p id (Asked i Start ∷ between) past k steady less all =
    at_id (same_id id i) k less all (λ j. start_among p id between past j steady) where
      times : List ℕ
      times = start_times id (between ++ Asked id Start ∷ past)

      now : ℕ
      now = time_of (between ++ Asked id Start ∷ past)

      at_id : (b : Bool) (k : ℕ) → k ≤ cond b (count_starts id between + 1) (count_starts id between)
          → list_all p (drop k (cond b (now ∷ times) times)) ≡ true → ((j : ℕ) → j ≤ count_starts id between
          → list_all p (drop j times) ≡ true → p (time_of past) ≡ true) → p (time_of past) ≡ true
      at_id b k less all rest = grind arith
start_among p id (_ ∷ between) past k steady less all = start_among p id between past k steady less all

-- of eleven starts of an entry to which the respawn limit applies, with no new stage or table in between, the last is
-- at least two minutes after the first
pub apart : (goal : Goal) (later between past : List Event) (id : List ℕ) → is_sound goal (later ++ Asked id Start
    ∷ (between ++ Asked id Start ∷ past)) ≡ true → is_steady between ≡ true → STARTS ≤ count_starts id between + 1
    → is_limited_id id past ≡ true → time_of past + WINDOW ≤ time_of (between ++ Asked id Start ∷ past)
apart goal later between past id h steady nine was = leb-true (time_of past + WINDOW) (time_of all) (start_among
    (λ started. nat_le (started + WINDOW) (time_of all)) id between past (STARTS - 1) steady (omega (arith, nine))
    (limited_pace id all (is_limited_id id all) limited (start_paced goal later id all h)).0) where
      all : List Event
      all = between ++ Asked id Start ∷ past

      limited : is_limited_id id all ≡ true
      limited = ap (λ table. limited_in id table) (steady_table between (Asked id Start ∷ past) steady) ∙ was

-- if a stretch has no order for the id, the targets of the id do not change
targets_stay : (id : List ℕ) (between past : List Event) → list_any (is_order_of id) between ≡ false
    → targets id (between ++ past) ≡ targets id past
targets_stay id [] past none = refl
targets_stay id (Asked i ask ∷ between) past none = grind (arith, targets_stay id between past)
targets_stay id (_ ∷ between) past none = targets_stay id between past none

-- when a signal was sent, the child that was known when it was ordered is still unreaped and excluded
pub on_order : (goal : Goal) (later between past : List Event) (id : List ℕ) (ask : OrderKind)
    → is_sound goal (later ++ Hit id ∷ (between ++ Asked id ask ∷ past)) ≡ true
    → list_any (is_order_of id) between ≡ false → (has_child id (known_children past) ≡ true)
    × (list_all (λ child. is_excluded (between ++ Asked id ask ∷ past) child && list_any (is_child id child.number)
    (unreaped_children (between ++ Asked id ask ∷ past))) (filter (is_child_of id) (known_children past)) ≡ true)
on_order goal later between past id ask h none = grind (arith, targets_stay, same_id-self, hit_own, filter_none)
