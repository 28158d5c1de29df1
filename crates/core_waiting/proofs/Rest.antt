-- If no step is due and no order is open, no request is pending, and the level is announced settled or init waits for a
-- child.
use Rattle.core_waiting.proofs.Words.{arith, ◌≡◌, refl, sym, ◌∙◌, ap, subst, ℕ, Bool, true, false, not, ◌&&◌, ◌||◌}
use Rattle.core_waiting.proofs.Words.{cond, List, [], ◌∷◌, ◌++◌, Some, None, list_any, list_all, false≢true}
use Rattle.core_waiting.proofs.Words.{true_from_ne_false, and_parts, and_from, or_left, or_right, or_parts, not-true}
use Rattle.core_waiting.proofs.Words.{Entry, Act, Level, Mark, At, Stage, Start, Look, same_id, same_ask, names}
use Rattle.core_waiting.proofs.Words.{starts_by, waited_by, wanted_by, is_limited, served_by, waited_of, same_id-is}
use Rattle.core_waiting.proofs.Words.{same_id-self, same_level-self, both_ways, falsely, or_either, not_from, any_less}
use Rattle.core_waiting.proofs.Words.{all_less, any_filter, has_id, entry_of, is_distinct, Step, Goal, Event, table_of}
use Rattle.core_waiting.proofs.Words.{stage_of, Child, is_child_of, has_child, open_of, open_orders, is_quiet, is_idle}
use Rattle.core_waiting.proofs.Words.{kept_children, known_children, Open, starts_in, is_order, has_no_running_child}
use Rattle.core_waiting.proofs.Words.{is_asked}
use Rattle.core_waiting.proofs.Words.{is_called, is_wanted, is_owed, is_excluded, is_held, is_request_pending, step_if}
use Rattle.core_waiting.proofs.Words.{steps_if, due_first, due_reexec, due_reread, due_level, due_news, due_stops}
use Rattle.core_waiting.proofs.Words.{can_start, start_steps, starts_among, due_starts, due_stage, is_served}
use Rattle.core_waiting.proofs.Words.{due_settle, due_looks, is_sound, idle_none, known_kept, sound_holds, entry_listed}
use Rattle.core_waiting.proofs.Words.{at_moment, has_known, Excluded, why_of_entry, is_awaited, awaited_children}
use Rattle.core_waiting.proofs.Words.{is_level_announced, is_empty, AtRest}
use Rattle.std.proofs.Common.{is_some}
use Rattle.init_words.specs.declared.stages.Stage.TheVariants as stage

pub nil_parts : (xs ys : List Step) → xs ++ ys ≡ [] → (xs ≡ []) × (ys ≡ [])
nil_parts [] ys h = (refl, h)
nil_parts (x ∷ xs) ys h = cc

pub none_if : (b : Bool) (step : Step) → step_if b step ≡ [] → b ≡ false
none_if true step h = cc
none_if false step h = refl

pub none_of : (b : Bool) (steps : List Step) → steps_if b steps ≡ [] → b ≡ true → steps ≡ []
none_of true steps h own = h
none_of false steps h own = absurd (false≢true own)

not_empty : (xs : List Child) → list_any (λ child. true) xs ≡ true → is_empty xs ≡ false
not_empty xs h = grind arith

-- the ten ranks at rest
pub record Rest (goal : Goal) (past : List Event) : Type 0 where
  pub first : due_first goal (stage_of past) past ≡ []
  pub reexec : due_reexec past ≡ []
  pub reread : due_reread past ≡ []
  pub level : due_level past ≡ []
  pub news : due_news past ≡ []
  pub stops : due_stops past ≡ []
  pub starts : due_starts past ≡ []
  pub stage : due_stage goal past ≡ []
  pub settle : due_settle past ≡ []
  pub looks : due_looks past ≡ []

ten_parts : (a b c d e f g h i j : List Step) → (a ++ b ++ c ++ d ++ e ++ f ++ g ++ h ++ i ++ j) ≡ []
    → (a ≡ []) × (b ≡ []) × (c ≡ []) × (d ≡ []) × (e ≡ []) × (f ≡ []) × (g ≡ []) × (h ≡ []) × (i ≡ []) × (j ≡ [])
ten_parts a b c d e f g h i j none = grind (arith, nil_parts)

pub at_rest : (goal : Goal) (past : List Event) → AtRest goal past → Rest goal past
at_rest goal past h =
    let p = ten_parts (due_first goal (stage_of past) past) (due_reexec past) (due_reread past) (due_level past)
    (due_news past) (due_stops past) (due_starts past) (due_stage goal past) (due_settle past) (due_looks past) h in
    record {
      first = p.0;
      reexec = p.1;
      reread = p.2;
      level = p.3;
      news = p.4;
      stops = p.5;
      starts = p.6;
      stage = p.7;
      settle = p.8;
      looks = p.9;
    }

-- if no order is open, the point is quiet
pub idle_quiet : (past : List Event) → is_idle past ≡ true → is_quiet past ≡ true
idle_quiet past idle = not_from (list_any (λ (order : Open). not (same_ask Look order.ask)) (open_orders past)) (falsely
    (list_any (λ (order : Open). not (same_ask Look order.ask)) (open_orders past)) (list_any (λ (order : Open). true)
    (open_orders past)) (any_less (λ (order : Open). not (same_ask Look order.ask)) (λ order. true) (λ order h. refl)
    (open_orders past)) (not-true (list_any (λ (order : Open). true) (open_orders past)) idle))

pub no_wish : (goal : Goal) (past : List Event) → Rest goal past → is_quiet past ≡ true
    → is_request_pending past ≡ false
no_wish goal past rest quiet = grind arith

-- the entry is waited for or wanted
abbrev pub asks_room : List Event → Entry → Bool
asks_room past e = waited_of e || is_wanted e past

-- the entry is waited for or wanted, and has a kept child
abbrev pub lacks_room : List Event → Entry → Bool
lacks_room past e = asks_room past e && has_child e.id (kept_children past)

-- the entry is not owed, and is wanted only if it is held
abbrev pub stands_still : List Event → Entry → Bool
stands_still past e = not (is_owed e past) && (not (is_wanted e past) || is_limited e.act && is_held e.id past)

-- in a table that has each id once, an entry that passes the test is found by its id
pub record Found (p : Entry → Bool) (es : List Entry) : Type 0 where
  pub entry : Entry
  pub passes : p entry ≡ true
  pub found : entry_of entry.id es ≡ Some entry

found_entry : (p : Entry → Bool) (es : List Entry) → is_distinct es ≡ true → list_any p es ≡ true → Found p es
found_entry p [] distinct h = absurd (false≢true h)
found_entry p (e ∷ es) distinct h =
    or_either (p e) (list_any p es) h here (λ more. later (found_entry p es parts.1 more)) where
      parts : (not (list_any (has_id e.id) es) ≡ true) × (is_distinct es ≡ true)
      parts = and_parts (not (list_any (has_id e.id) es)) (is_distinct es) distinct

      here : p e ≡ true → Found p (e ∷ es)
      here own = record { entry = e; passes = own; found = rw (same_id-self e.id) refl }

      other : (x : Entry) → entry_of x.id es ≡ Some x → same_id x.id e.id ≡ false
      other x found =
          falsely (same_id x.id e.id) (list_any (has_id e.id) es) (λ same. subst (λ i. list_any (has_id i) es
          ≡ true) (same_id-is x.id e.id same) (entry_listed x.id es x found))
          (not-true (list_any (has_id e.id) es) parts.0)

      later : Found p es → Found p (e ∷ es)
      later rest = record {
        entry = rest.entry;
        passes = rest.passes;
        found = ap (λ b. cond b (Some e) (entry_of rest.entry.id es)) (other rest.entry rest.found) ∙ rest.found;
      }

-- init waits for the kept child of an entry that is waited for or wanted
why_some : (b : Bool) (e : Entry) (past : List Event) → asks_room past e ≡ true
    → is_some (cond b (Some Excluded) (why_of_entry (Some e) past)) ≡ true
why_some true e past h = refl
why_some false e past h = grind arith

pub entry_awaited : (past : List Event) (child : Child) (e : Entry) → entry_of child.id (table_of past) ≡ Some e
    → asks_room past e ≡ true → is_awaited past child ≡ true
entry_awaited past child e found room = ap (λ o. is_some (cond (is_excluded past child) (Some Excluded)
    (why_of_entry o past))) found ∙ why_some (is_excluded past child) e past room

room_awaited : (past : List Event) → is_distinct (table_of past) ≡ true
    → list_any (lacks_room past) (table_of past) ≡ true → list_any (is_awaited past) (kept_children past) ≡ true
room_awaited past distinct h = at (found_entry (lacks_room past) (table_of past) distinct h) where
  at : Found (lacks_room past) (table_of past) → list_any (is_awaited past) (kept_children past) ≡ true
  at found =
      let parts = and_parts (asks_room past found.entry) (has_child found.entry.id (kept_children past)) found.passes in
      any_less (is_child_of found.entry.id) (is_awaited past) (λ child own. entry_awaited past child found.entry
      (ap (λ i. entry_of i (table_of past)) (sym (same_id-is found.entry.id child.id own)) ∙ found.found) parts.0)
      (kept_children past) parts.1

pub excluded_awaits : (past : List Event) (child : Child) → is_excluded past child ≡ true → is_awaited past child ≡ true
excluded_awaits past child own = rw own refl

excluded_awaited : (past : List Event) → list_any (is_excluded past) (kept_children past) ≡ true
    → list_any (is_awaited past) (kept_children past) ≡ true
excluded_awaited past h = any_less (is_excluded past) (is_awaited past) (excluded_awaits past) (kept_children past) h

-- rank 7: if no waited or wanted entry has a kept child, no entry is owed, and only held ones are wanted
pub waited_free : (a : Act) → waited_by a ≡ true → is_limited a ≡ true → false ≡ true
waited_free a waited limited = grind arith

still : (e : Entry) (past : List Event) → open_of e.id past ≡ None → lacks_room past e ≡ false → steps_if (can_start e
    past) (start_steps e past) ≡ [] → is_wanted e past ≡ true → (is_limited e.act ≡ true) × (is_held e.id past ≡ true)
still e past free room none wanted = grind arith

-- the same for one entry: whether it is waited for, has a child or an open Start, is wanted, has a respawn limit and is
-- held
not_owed : (e : Entry) (past : List Event) → open_of e.id past ≡ None → lacks_room past e ≡ false
    → (is_wanted e past ≡ true → (is_limited e.act ≡ true) × (is_held e.id past ≡ true)) → is_owed e past ≡ false
not_owed e past free room held = grind arith

wanted_held : (wanted : Bool) (limited held : Bool) → (wanted ≡ true → (limited ≡ true) × (held ≡ true))
    → (not wanted || limited && held) ≡ true
wanted_held false limited held h = refl
wanted_held true limited held h = and_from limited held (h refl).0 (h refl).1

all_still : (past : List Event) → is_idle past ≡ true → (es : List Entry) → list_any (lacks_room past) es ≡ false
    → starts_among es past ≡ [] → list_all (stands_still past) es ≡ true
all_still past idle [] room none = refl
all_still past idle (e ∷ es) room none =
    let free = idle_none e.id past idle in
    let rooms = or_parts (lacks_room past e) (list_any (lacks_room past) es) room in
    let steps = nil_parts (steps_if (can_start e past) (start_steps e past))
    (cond (is_owed e past) [] (starts_among es past)) none in
    let held = still e past free rooms.0 steps.0 in
    let owed = not_owed e past free rooms.0 held in
    and_from (stands_still past e) (list_all (stands_still past) es)
    (and_from (not (is_owed e past)) (not (is_wanted e past) || is_limited e.act && is_held e.id past)
    (not_from (is_owed e past) owed) (wanted_held (is_wanted e past) (is_limited e.act) (is_held e.id past) held))
    (all_still past idle es rooms.1 (ap (λ b. cond b [] (starts_among es past)) (sym owed) ∙ steps.1))

-- rank 8: in Sysinit and Boot no entry has a respawn limit, so none is wanted
abbrev is_run : Stage → Bool
is_run (stage.Run level) = true
is_run _ = false

over_by : (past : List Event) (now : Stage) → stage_of past ≡ Some now → is_run now ≡ false → list_any (lacks_room past)
    (table_of past) ≡ false → list_all (stands_still past) (table_of past) ≡ true → list_all
    (λ e. not (is_wanted e past) && not (waited_of e && has_child e.id (kept_children past))) (table_of past) ≡ true
over_by past now is early room all = along (table_of past) room all where
  unwanted : (e : Entry) → stands_still past e ≡ true → is_wanted e past ≡ false
  unwanted e h = grind arith

  along : (es : List Entry) → list_any (lacks_room past) es ≡ false → list_all (stands_still past) es ≡ true
      → list_all (λ e. not (is_wanted e past) && not (waited_of e && has_child e.id (kept_children past))) es ≡ true
  along [] room all = refl
  along (e ∷ es) room all =
      let rooms = or_parts (lacks_room past e) (list_any (lacks_room past) es) room in
      let alls = and_parts (stands_still past e) (list_all (stands_still past) es) all in
      and_from (not (is_wanted e past) && not (waited_of e && has_child e.id (kept_children past)))
      (list_all (λ x. not (is_wanted x past) && not (waited_of x && has_child x.id (kept_children past))) es)
      (and_from (not (is_wanted e past)) (not (waited_of e && has_child e.id (kept_children past)))
      (not_from (is_wanted e past) (unwanted e alls.0)) (not_from (waited_of e && has_child e.id (kept_children past))
      (falsely (waited_of e && has_child e.id (kept_children past)) (lacks_room past e) (λ both. let two = and_parts
      (waited_of e) (has_child e.id (kept_children past)) both in and_from (asks_room past e)
      (has_child e.id (kept_children past)) (or_left (waited_of e) (is_wanted e past) two.0) two.1) rooms.0)))
      (along es rooms.1 alls.1)

-- rank 9: in a run level all such entries are served
served : (a : Act) (levels : List Mark) (level : Level) (idle asked called there held : Bool) → ((starts_by a levels
    (stage.Run level) && wanted_by a idle (not asked) called) ≡ true → (is_limited a && held) ≡ true)
    → (there ≡ false → idle ≡ true) → (not (names (At level) levels) || served_by a asked (there || held)) ≡ true
served a levels level idle asked called there held still free = grind arith

all_served : (goal : Goal) (past : List Event) → is_sound goal past ≡ true → is_idle past ≡ true → (level : Level)
    → stage_of past ≡ Some (stage.Run level) → (es : List Entry) → list_all (stands_still past) es ≡ true
    → list_all (is_served level (known_children past) past) es ≡ true
all_served goal past sound idle level is es all =
    all_less (stands_still past) (is_served level (known_children past) past) one es all where
      no_start : (id : List ℕ) → is_order Start (open_of id past) ≡ false
      no_start id = ap (is_order Start) (idle_none id past idle)

      one : (e : Entry) → stands_still past e ≡ true → is_served level (known_children past) past e ≡ true
      one e h = and_from (not (is_owed e past)) (not (names (At level) e.levels.items)
          || served_by e.act (is_asked e.id past) (has_child e.id (known_children past) || is_held e.id past)) parts.0
          (served e.act e.levels.items level (has_no_running_child e.id past) (is_asked e.id past) (is_called e past)
          (has_child e.id (known_children past)) (is_held e.id past) limited free) where
            parts : (not (is_owed e past) ≡ true)
                × ((not (is_wanted e past) || is_limited e.act && is_held e.id past) ≡ true)
            parts = and_parts (not (is_owed e past)) (not (is_wanted e past) || is_limited e.act && is_held e.id past) h

            limited : (starts_by e.act e.levels.items (stage.Run level)
                && wanted_by e.act (has_no_running_child e.id past)
                (not (is_asked e.id past)) (is_called e past)) ≡ true → (is_limited e.act && is_held e.id past) ≡ true
            limited wanted =
                or_either (not (is_wanted e past)) (is_limited e.act && is_held e.id past) parts.1 (λ not_wanted.
                both_ways (is_wanted e past)
                (ap (λ now. starts_in e now && wanted_by e.act (has_no_running_child e.id past) (not
                (is_asked e.id past)) (is_called e past)) is
                ∙ wanted) (not-true (is_wanted e past) not_wanted)) (λ both. both)

            free : has_child e.id (known_children past) ≡ false → has_no_running_child e.id past ≡ true
            free none = rw (has_known goal past sound e.id (no_start e.id) ∙ none, no_start e.id) refl

-- so the level is announced settled, or init waits for a kept child
spared_known : (past : List Event) → list_any (is_excluded past) (kept_children past) ≡ false
    → list_any (is_excluded past) (known_children past) ≡ false
spared_known past none = falsely (list_any (is_excluded past) (known_children past))
    (list_any (is_excluded past) (kept_children past)) (known_kept (is_excluded past) past) none

pub announced_or_awaited : (goal : Goal) (past : List Event) → is_sound goal past ≡ true → AtRest goal past
    → is_idle past ≡ true → list_any (is_awaited past) (kept_children past) ≡ false → is_level_announced past ≡ true
announced_or_awaited goal past sound h idle none =
    grind (
      arith,
      at_rest,
      idle_quiet,
      no_wish,
      falsely,
      excluded_awaited,
      room_awaited,
      sound_holds,
      all_still,
      none_of,
      over_by,
      same_level-self,
      spared_known,
      all_served,
      true_from_ne_false,
      none_if,
    )

-- as tests, at each rest
three : (idle announced empty awaited : Bool) → (idle ≡ true → awaited ≡ false → announced ≡ true)
    → (awaited ≡ true → empty ≡ false) → (not idle || announced || not empty) ≡ true
three false announced empty awaited h some = refl
three true announced empty true h some = or_right announced (not empty) (not_from empty (some refl))
three true announced empty false h some = or_left announced (not empty) (h refl refl)

pub some_awaited : (past : List Event) → list_any (is_awaited past) (kept_children past) ≡ true
    → is_empty (awaited_children past) ≡ false
some_awaited past h = not_empty (awaited_children past) (any_filter (λ child. true) (is_awaited past)
    (kept_children past) ∙ any_less (is_awaited past) (λ child. is_awaited past child && true)
    (λ child own. and_from (is_awaited past child) true own refl) (kept_children past) h)

pub not_first : (goal : Goal) → AtRest goal [] → ⊥
not_first goal h = cc

pub rest_accounted : (goal : Goal) (later past : List Event) → is_sound goal (later ++ past) ≡ true → AtRest goal past
    → (not (is_idle past) || is_level_announced past || not (is_empty (awaited_children past))) ≡ true
rest_accounted goal later past sound = at_moment goal (λ before. AtRest goal before
    → (not (is_idle before) || is_level_announced before || not (is_empty (awaited_children before))) ≡ true)
    (λ h. absurd (not_first goal h)) (λ before ok h. three (is_idle before) (is_level_announced before)
    (is_empty (awaited_children before)) (list_any (is_awaited before) (kept_children before))
    (announced_or_awaited goal before ok h) (some_awaited before)) later past sound

pub rest_heard : (goal : Goal) (past : List Event) → AtRest goal past → is_idle past ≡ true
    → is_request_pending past ≡ false
rest_heard goal past h idle = no_wish goal past (at_rest goal past h) (idle_quiet past idle)
