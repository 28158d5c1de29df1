-- While a level is announced settled, init waits only for children of entries that a power event calls.
use Rattle.core_waiting.proofs.Words.{arith, ◌≡◌, refl, sym, ◌∙◌, ap, ℕ, Bool, true, false, not, ◌&&◌, ◌||◌, cond, List}
use Rattle.core_waiting.proofs.Words.{[], ◌∷◌, ◌++◌, filter, Option, Some, None, list_any, list_all, option_map_or}
use Rattle.core_waiting.proofs.Words.{false≢true, false_from_ne_true, and_parts, and_from, or_left, or_right, or_from}
use Rattle.core_waiting.proofs.Words.{not-true, none-some, same_Some, Entry, Act, Level, Mark, At, Stage, Start}
use Rattle.core_waiting.proofs.Words.{same_id, names, starts_by, waited_by, wanted_by, served_by, waited_of, same_id-is}
use Rattle.core_waiting.proofs.Words.{same_id-self, falsely, or_either, all_less, Passing, passing, entry_of, NewTable}
use Rattle.core_waiting.proofs.Words.{Enter, Asked, Birth, Told, Goal, Event, table_of, stage_of, Child, is_child_of}
use Rattle.core_waiting.proofs.Words.{has_child, open_of, newborn, kept_children, known_children, starts_in, starts_now}
use Rattle.core_waiting.proofs.Words.{is_order, has_no_running_child, is_asked, is_called, is_wanted, is_owed}
use Rattle.core_waiting.proofs.Words.{is_excluded}
use Rattle.core_waiting.proofs.Words.{is_held, in_run, is_level, is_announced, is_served, may_come, is_sound, cleared}
use Rattle.core_waiting.proofs.Words.{idle_none, kept_before_told, undone_is_open, is_order-is, MayRun, MaySettle}
use Rattle.core_waiting.proofs.Words.{due_facts, sound_holds, sound_ind, start_stays, start_undone, born_ready}
use Rattle.core_waiting.proofs.Words.{placed_spared, at_moment, excluded_known, Excluded, WaitedFor, InTheWay}
use Rattle.core_waiting.proofs.Words.{why_of_entry, is_awaited, awaited_children, answers_power, is_on_power}
use Rattle.std.proofs.Common.{is_some}
use Rattle.init_words.specs.declared.actions.Act.TheVariants as act
use Rattle.init_words.specs.declared.stages.Stage.TheVariants as stage
use Rattle.trace_events.specs.declared.happenings.Happening.TheVariants.{Settle}
use Rattle.trace_events.specs.declared.steps.Step.TheVariants as step

-- the action is wanted once in a level
abbrev is_once : Act → Bool
is_once act.Wait = true
is_once act.Once = true
is_once _ = false

-- a wait or once entry that starts in the stage was asked
abbrev was_asked : List Event → Entry → Bool
was_asked past e = not (is_once e.act && starts_now e past) || is_asked e.id past

-- init does not wait for the entry, unless a power event calls it
abbrev lets_on : Entry → Bool
lets_on e = not (waited_of e) || answers_power e.act

-- the child's entry is waited for, and no power event calls it
abbrev holds_on : List Event → Child → Bool
holds_on past child = option_map_or (λ (e : Entry). not (lets_on e)) (entry_of child.id (table_of past)) false

record Settled (past : List Event) : Type 0 where
  pub running : in_run (stage_of past) ≡ true
  pub spared : list_any (is_excluded past) (kept_children past) ≡ false
  pub asked : list_all (was_asked past) (table_of past) ≡ true
  pub started : (id : List ℕ) → open_of id past ≡ Some Start
      → option_map_or lets_on (entry_of id (table_of past)) false ≡ true
  pub room : list_any (holds_on past) (kept_children past) ≡ false

pub all_found : (p : Entry → Bool) (id : List ℕ) (es : List Entry) (e : Entry) → list_all p es ≡ true
    → entry_of id es ≡ Some e → p e ≡ true
all_found p id [] e all found = grind arith
all_found p id (x ∷ es) e all found = grind (arith, all_found p id es e)

pub found_id : (id : List ℕ) (es : List Entry) (e : Entry) → entry_of id es ≡ Some e → id ≡ e.id
found_id id [] e found = grind (arith, none-some, same_id-is, same_Some)
found_id id (x ∷ es) e found = grind (arith, found_id id es e, none-some, same_id-is, same_Some)

level_run : (level : Level) (o : Option Stage) → is_level level o ≡ true → o ≡ Some (stage.Run level)
level_run level o h = grind arith

-- what follows from an action, in a run level
served_asked : (a : Act) (levels : List Mark) (level : Level) (asked kept : Bool) → (not (names (At level) levels)
    || served_by a asked kept) ≡ true → (not (is_once a && starts_by a levels (stage.Run level)) || asked) ≡ true
served_asked a levels level asked kept h = grind arith

wanted_lets : (a : Act) (levels : List Mark) (level : Level) (idle asked called : Bool)
    → (starts_by a levels (stage.Run level) && wanted_by a idle (not asked) called) ≡ true → (not
    (is_once a && starts_by a levels (stage.Run level)) || asked) ≡ true → (not (waited_by a) || answers_power a) ≡ true
wanted_lets a levels level idle asked called wanted was = grind arith

wanted_power : (a : Act) (levels : List Mark) (level : Level) (idle asked called : Bool)
    → (starts_by a levels (stage.Run level) && wanted_by a idle (not asked) called) ≡ true
    → (not (is_once a && starts_by a levels (stage.Run level)) || asked) ≡ true → idle ≡ false → answers_power a ≡ true
wanted_power a levels level idle asked called wanted was busy = grind arith

pub in_level : (o : Option Stage) → in_run o ≡ true → (level : Level) × (o ≡ Some (stage.Run level))
in_level o h = grind arith

-- when a level is announced settled
at_settle : (goal : Goal) (level : Level) (past : List Event) → is_sound goal past ≡ true → MaySettle level past
    → Settled (Settle level ∷ past)
at_settle goal level past sound may = record {
  running = ap in_run now;
  spared = excluded_known goal past sound ∙ not-true (list_any (is_excluded past) (known_children past)) two.1;
  asked = all_less (is_served level (known_children past) past) (was_asked past) asked (table_of past) parts.1;
  started = λ id started. absurd (none-some Start (sym (idle_none id past may.idle) ∙ started));
  room = false_from_ne_true (list_any (holds_on past) (kept_children past))
      (λ h. held (passing (holds_on past) (kept_children past) h));
} where
  parts : ((is_level level (stage_of past) && not (list_any (is_excluded past) (known_children past))) ≡ true)
      × (list_all (is_served level (known_children past) past) (table_of past) ≡ true)
  parts = and_parts (is_level level (stage_of past) && not (list_any (is_excluded past) (known_children past)))
      (list_all (is_served level (known_children past) past) (table_of past)) may.settled

  two : (is_level level (stage_of past) ≡ true) × (not (list_any (is_excluded past) (known_children past)) ≡ true)
  two = and_parts (is_level level (stage_of past)) (not (list_any (is_excluded past) (known_children past))) parts.0

  now : stage_of past ≡ Some (stage.Run level)
  now = level_run level (stage_of past) two.0

  asked : (e : Entry) → is_served level (known_children past) past e ≡ true → was_asked past e ≡ true
  asked e h =
      let there = has_child e.id (known_children past) || is_held e.id past in
      ap (λ o. not (is_once e.act && starts_in e o) || is_asked e.id past) now
      ∙ served_asked e.act e.levels.items level (is_asked e.id past) there (and_parts (not (is_owed e past))
      (not (names (At level) e.levels.items) || served_by e.act (is_asked e.id past) there) h).1

  owed : (e : Entry) → waited_of e ≡ true → has_child e.id (kept_children past) ≡ true → is_owed e past ≡ true
  owed e waited there = and_from (waited_of e)
      (has_child e.id (kept_children past) || is_order Start (open_of e.id past) || is_wanted e past) waited
      (or_left (has_child e.id (kept_children past) || is_order Start (open_of e.id past)) (is_wanted e past)
      (or_left (has_child e.id (kept_children past)) (is_order Start (open_of e.id past)) there))

  held : Passing (holds_on past) (kept_children past) → ⊥
  held there = read (entry_of there.item.id (table_of past)) refl there.passes where
    read : (o : Option Entry) → entry_of there.item.id (table_of past) ≡ o
        → option_map_or (λ (e : Entry). not (lets_on e)) o false ≡ true → ⊥
    read None is h = false≢true h
    read (Some e) is h =
        let own : has_child e.id (kept_children past) ≡ true = there.within (is_child_of e.id) (ap (λ i.
        same_id i there.item.id) (sym (found_id there.item.id (table_of past) e is)) ∙ same_id-self there.item.id) in
        let waited : waited_of e ≡ true = waits (waited_of e) (answers_power e.act) h in
        let free = (and_parts (not (is_owed e past)) (not (names (At level) e.levels.items)
        || served_by e.act (is_asked e.id past) (has_child e.id (known_children past) || is_held e.id past))
        (all_found (is_served level (known_children past) past) there.item.id (table_of past) e parts.1 is)).0 in
        false≢true (sym (not-true (is_owed e past) free) ∙ owed e waited own) where
          waits : (waited power : Bool) → not (not waited || power) ≡ true → waited ≡ true
          waits true power h = refl
          waits false power h = h

-- and after each further happening
start_lets : (i : List ℕ) (past : List Event) → Settled past → (may : MayRun i (table_of past) past)
    → entry_of i (table_of past) ≡ Some may.entry → option_map_or lets_on (entry_of i (table_of past)) false ≡ true
start_lets i past before may found = grind (arith, in_level, wanted_lets, all_found)

born_lets : (i : List ℕ) (n : ℕ) (past : List Event) → Settled past → open_of i past ≡ Some Start
    → holds_on past (newborn i n past) ≡ false
born_lets i n past before started = grind arith

settled_keeps : (goal : Goal) (past : List Event) → is_sound goal past ≡ true → is_announced past ≡ true → Settled past
settled_keeps goal past h = sound_ind goal (λ before. is_announced before ≡ true → Settled before)
    (λ table distinct told. absurd (false≢true told)) next past h where
      next : (happening : Event) (before : List Event) → may_come goal happening before ≡ true
          → is_sound goal before ≡ true
          → (is_announced before ≡ true → Settled before) → is_announced (happening ∷ before) ≡ true
          → Settled (happening ∷ before)
      next (NewTable table) before may sound rest told = absurd (false≢true told)
      next (Enter s grace) before may sound rest told = absurd (false≢true told)
      next (Settle level) before may sound rest told =
          at_settle goal level before sound (due_facts goal before (step.Settle level) may)
      next (Asked i Start) before may sound rest told =
          record { running = was.running; spared = was.spared; asked = asked; started = started; room = was.room } where
            was : Settled before
            was = rest told

            run : MayRun i (table_of before) before
            run = (due_facts goal before (step.Order i Start) may).run

            asked : list_all (was_asked (Asked i Start ∷ before)) (table_of before) ≡ true
            asked =
                all_less (was_asked before) (was_asked (Asked i Start ∷ before)) (λ e h. or_either (not (is_once e.act
                && starts_now e before)) (is_asked e.id before) h
                (or_left (not (is_once e.act && starts_now e before)) (same_id
                e.id i
                || is_asked e.id before)) (λ own. or_right (not (is_once e.act && starts_now e before)) (same_id e.id i
                || is_asked e.id before) (or_right (same_id e.id i) (is_asked e.id before) own)))
                (table_of before) was.asked

            started : (id : List ℕ) → open_of id (Asked i Start ∷ before) ≡ Some Start
                → option_map_or lets_on (entry_of id (table_of before)) false ≡ true
            started id is = at_id (same_id id i) refl is where
              at_id : (b : Bool) → same_id id i ≡ b → cond b (Some Start) (open_of id before) ≡ Some Start
                  → option_map_or lets_on (entry_of id (table_of before)) false ≡ true
              at_id true same is =
                  ap (λ x. option_map_or lets_on (entry_of x (table_of before)) false) (same_id-is id i same)
                  ∙ start_lets i before was run (run.found (sound_holds goal before sound).distinct)
              at_id false differ is = was.started id is
      next (Asked i ask) before may sound rest told = record {
        running = was.running;
        spared = was.spared;
        asked = was.asked;
        started = λ id is. was.started id (start_stays (same_id id i) ask (open_of id before) refl is);
        room = was.room;
      } where
        was : Settled before
        was = rest told
      next (Birth i n) before may sound rest told = record {
        running = was.running;
        spared =
            or_from (is_excluded before (newborn i n before)) (list_any (is_excluded before) (kept_children before))
            (placed_spared i n before (born_ready goal i n before may (sound_holds goal before sound)).placed)
            was.spared;
        asked = was.asked;
        started = was.started;
        room =
            or_from (holds_on before (newborn i n before)) (list_any (holds_on before) (kept_children before))
            (born_lets
            i n before was
            (undone_is_open i Start before (is_order-is Start _ (start_undone goal i n before may)))) was.room;
      } where
        was : Settled before
        was = rest told
      next (Told i) before may sound rest told = record {
        running = was.running;
        spared = falsely (list_any (is_excluded before) (kept_children (Told i ∷ before)))
            (list_any (is_excluded before) (kept_children before))
            (kept_before_told (is_excluded before) i before) was.spared;
        asked = was.asked;
        started =
            λ id is. cleared (same_id id i) (open_of id before) Start (λ differ was_open. was.started id was_open) is;
        room = falsely (list_any (holds_on before) (kept_children (Told i ∷ before)))
            (list_any (holds_on before) (kept_children before)) (kept_before_told (holds_on before) i before) was.room;
      } where
        was : Settled before
        was = rest told
      next happening before may sound rest told =
          record {
            running = was.running;
            spared = was.spared;
            asked = was.asked;
            started = was.started;
            room = was.room;
          }
        where
          was : Settled before
          was = rest told

-- so a child that init waits for then belongs to an entry that a power event calls
all_filtered : (p q : Child → Bool) (xs : List Child) → list_any (λ x. q x && not (p x)) xs ≡ false
    → list_all p (filter q xs) ≡ true
all_filtered p q [] h = grind arith
all_filtered p q (x ∷ xs) h = grind (arith, all_filtered p q xs)

settled_power : (past : List Event) → Settled past → list_all (is_on_power past) (awaited_children past) ≡ true
settled_power past was = all_filtered (is_on_power past) (is_awaited past) (kept_children past)
    (false_from_ne_true (list_any other (kept_children past)) (λ h. none (passing other (kept_children past) h))) where
      other : Child → Bool
      other child = is_awaited past child && not (is_on_power past child)

      none : Passing other (kept_children past) → ⊥
      none there = read (entry_of there.item.id (table_of past)) refl
          (ap (λ b. is_some (cond b (Some Excluded) (why_of_entry (entry_of there.item.id (table_of past)) past)))
          (sym spared) ∙ parts.0) (not-true (is_on_power past there.item) parts.1) where
            parts : (is_awaited past there.item ≡ true) × (not (is_on_power past there.item) ≡ true)
            parts = and_parts (is_awaited past there.item) (not (is_on_power past there.item)) there.passes

            spared : is_excluded past there.item ≡ false
            spared = false_from_ne_true (is_excluded past there.item)
                (λ own. false≢true (sym was.spared ∙ there.within (is_excluded past) own))

            read : (o : Option Entry) → entry_of there.item.id (table_of past) ≡ o
                → is_some (why_of_entry o past) ≡ true
                → option_map_or (λ (e : Entry). answers_power e.act) o false ≡ false → ⊥
            read None is why off = false≢true why
            read (Some e) is why off = by (waited_of e) refl (is_wanted e past) refl why where
              own : has_child e.id (kept_children past) ≡ true
              own = there.within (is_child_of e.id) (ap (λ i. same_id i there.item.id)
                  (sym (found_id there.item.id (table_of past) e is)) ∙ same_id-self there.item.id)

              busy : has_no_running_child e.id past ≡ false
              busy = ap (λ b. not b && not (is_order Start (open_of e.id past))) own

              wants : (level : Level) × (stage_of past ≡ Some (stage.Run level)) → is_wanted e past ≡ true
                  → answers_power e.act ≡ true
              wants now wanted =
                  wanted_power e.act e.levels.items now.0 (has_no_running_child e.id past) (is_asked e.id past)
                  (is_called e past)
                  (ap (λ o. starts_in e o && wanted_by e.act (has_no_running_child e.id past) (not (is_asked e.id past))
                  (is_called e past)) (sym now.1) ∙ wanted)
                  (ap (λ o. not (is_once e.act && starts_in e o) || is_asked e.id past) (sym now.1)
                  ∙ all_found (was_asked past) there.item.id (table_of past) e was.asked is)
                  busy

              by : (b : Bool) → waited_of e ≡ b → (c : Bool) → is_wanted e past ≡ c
                  → is_some (cond b (Some WaitedFor) (cond c (Some InTheWay) None)) ≡ true → ⊥
              by true waited c wanted why =
                  false≢true (sym was.room ∙ there.within (holds_on past) (ap (λ o. option_map_or
                  (λ (x : Entry). not (lets_on x)) o false) is ∙ holds (waited_of e) (answers_power e.act) waited off))
                where
                  holds : (w power : Bool) → w ≡ true → power ≡ false → not (not w || power) ≡ true
                  holds w power is_waited is_off = rw (is_waited, is_off) refl
              by false waited true wanted why =
                  false≢true (sym off ∙ wants (in_level (stage_of past) was.running) wanted)
              by false waited false wanted why = false≢true why

not_announced : is_announced [] ≡ true → ⊥
not_announced h = false≢true h

pub announced_power : (goal : Goal) (later past : List Event) → is_sound goal (later ++ past) ≡ true
    → is_announced past ≡ true → list_all (is_on_power past) (awaited_children past) ≡ true
announced_power goal later past sound = at_moment goal (λ before. is_announced before ≡ true
    → list_all (is_on_power before) (awaited_children before) ≡ true) (λ told. absurd (not_announced told))
    (λ before ok told. settled_power before (settled_keeps goal before ok told)) later past sound

pub announced_spared : (goal : Goal) (later past : List Event) → is_sound goal (later ++ past) ≡ true → is_announced
    past ≡ true → (in_run (stage_of past) ≡ true) × (list_any (is_excluded past) (kept_children past) ≡ false)
announced_spared goal later past sound = at_moment goal (λ before. is_announced before ≡ true → (in_run (stage_of
    before) ≡ true) × (list_any (is_excluded before) (kept_children before) ≡ false)) (λ told. absurd (not_announced
    told)) (λ before ok told. let was = settled_keeps goal before ok told in (was.running, was.spared)) later past sound
