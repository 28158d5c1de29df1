-- Each rest without a pending power event or letter can be followed by an undisturbed round, in which every known child
-- ends and every signal is sent.
use Rattle.core_waiting.proofs.Words.{◌≡◌, ◌≤◌, ◌<◌, ◌+◌, refl, sym, ◌∙◌, ap, subst, ◌⊎◌, inl, inr, ℕ, zero, suc, ◌==◌}
use Rattle.core_waiting.proofs.Words.{Bool, true, false, not, ◌&&◌, ◌||◌, cond, nat_le, nat_lt, List, [], ◌∷◌, ◌++◌}
use Rattle.core_waiting.proofs.Words.{filter, length, Option, Some, None, is_none, arith, list_any, list_all}
use Rattle.core_waiting.proofs.Words.{option_map_or, false≢true, false_from_ne_true, and_parts, and_from, and_right}
use Rattle.core_waiting.proofs.Words.{or_left, or_right, or_parts, or_from, not-true, le-leb, eq-eqb, none-some}
use Rattle.core_waiting.proofs.Words.{same_Some, HOLD, Entry, Level, S, Stage, Exit, OrderKind, Start, Look, same_id}
use Rattle.core_waiting.proofs.Words.{same_level, starts_of, waited_of, is_limited, same_id-is, same_id-self}
use Rattle.core_waiting.proofs.Words.{same_id-sym, same_id-flip, same_id-from, same_level-self, same_stage-self}
use Rattle.core_waiting.proofs.Words.{both_ways, and_false, falsely, or_either, not_from, any_less, filter_none}
use Rattle.core_waiting.proofs.Words.{Passing, passing, entry_of, NewTable, Enter, Asked, Birth, Death, Reaped, Still}
use Rattle.core_waiting.proofs.Words.{NoLook, Miss, Told, Nudge, Got, Step, Goal, Event, Child, Open, is_child_of}
use Rattle.core_waiting.proofs.Words.{is_child}
use Rattle.core_waiting.proofs.Words.{has_child, has_number, open_of, undone_of, is_untold, open_orders, is_quiet}
use Rattle.core_waiting.proofs.Words.{is_idle, is_dead, is_living, unreaped_children, kept_children, known_children}
use Rattle.core_waiting.proofs.Words.{table_of, stage_of, grace_of, time_of, may_live, is_order, is_wanted, is_owed}
use Rattle.core_waiting.proofs.Words.{is_excluded, stop_by, stop_due, spell_hits, has_untold_miss, in_spell, tells_miss}
use Rattle.core_waiting.proofs.Words.{is_missed, is_held, hold_times, is_full, in_run, goal_of, wants_reexec}
use Rattle.core_waiting.proofs.Words.{wants_reread, level_wish, other_than, powers, letters, are_calls_pending}
use Rattle.core_waiting.proofs.Words.{is_request_pending}
use Rattle.core_waiting.proofs.Words.{steps_if, none_excluded, enter_level, power_steps, letter_steps, stop_step}
use Rattle.core_waiting.proofs.Words.{stops_of, stops_among, can_start, start_steps, starts_among, is_over, next_stage}
use Rattle.core_waiting.proofs.Words.{is_settled, settle_step, record_ids, due_first, due_reexec, due_reread, due_level}
use Rattle.core_waiting.proofs.Words.{due_news, due_stops, due_starts, due_stage, due_settle, is_announced, wants_look}
use Rattle.core_waiting.proofs.Words.{can_look, looks_among, due_looks, step_if, same_step, is_due, may_come, is_sound}
use Rattle.core_waiting.proofs.Words.{idle_none, told_same, told_other, told_any, told_known, known_kept, same_of}
use Rattle.core_waiting.proofs.Words.{same_has, sound_holds, free_told, each_append, each_steps_if, MayStart, MayHold}
use Rattle.core_waiting.proofs.Words.{due_facts, one_child, same_any, quiet_known, child_in_records, AtRest}
use Rattle.core_waiting.proofs.Words.{after_rounds, has_to_end, is_end_seen, is_vain_look, is_found_ended, is_nudge}
use Rattle.core_waiting.proofs.Words.{has_no_request, is_undisturbed, AreRoundsWithoutRequests, undisturbed_among}
use Rattle.core_waiting.proofs.Words.{makes_kills_due}
use Rattle.core_waiting.proofs.Words.{is_gone}
use Rattle.core_waiting.proofs.Words.{is_start_of, has_kill_to_come, has_known, quiet_start, greatest}
use Rattle.std.proofs.Common.{is_some}
use Rattle.std.proofs.lemmas.List.Folds.{list_any-append}
use Rattle.init_words.specs.declared.stages.Stage.TheVariants as stage
use Rattle.init_words.specs.Orders.{same_stage}
use Rattle.trace_events.specs.declared.happenings.Happening.TheVariants.{Call, Power, Hold, Settle}
use Rattle.trace_events.specs.declared.steps.Step.TheVariants as step
use Rattle.trace_laws.proofs.Dues.{Each}
use Rattle.trace_laws.proofs.Spells.{misses_told}
use Rattle.core_waiting.proofs.Rest.{rest_heard, idle_quiet}
use Rattle.core_waiting.proofs.Rounds.{sound_rest}
use Rattle.core_waiting.proofs.Stops.{all_from}
use Rattle.core_waiting.proofs.Once.{calm_before, not_again}
use Rattle.core_waiting.proofs.Progress.{spared_step}
use Rattle.core_waiting.proofs.Ended.{at_most}
use Rattle.core_waiting.proofs.Climbing.{is_climb, stands_by, bystanders_at}
use Rattle.core_waiting.proofs.Arriving.{staged as at_stage}

-- what happens in the round: no request, no table, no look in vain, no failed signal and no call
abbrev pub is_kind : Event → Bool
is_kind (NewTable table) = false
is_kind (Call letter) = false
is_kind (Power kind) = false
is_kind (Got request) = false
is_kind (Still id) = false
is_kind (NoLook id) = false
is_kind (Miss id) = false
is_kind _ = true

-- the state so far in the round
record Kind (goal : Goal) (round past : List Event) : Type 0 where
  sound : is_sound goal (round ++ past) ≡ true
  idle : is_idle (round ++ past) ≡ true
  kind : list_all is_kind round ≡ true
  nudged : list_any is_nudge round ≡ true
  staged : is_some (stage_of (round ++ past)) ≡ true
  news : are_calls_pending (round ++ past) ≡ false
  unwished : is_request_pending (round ++ past) ≡ false

-- an order is answered and told, so none is open afterwards
none_open : (past : List Event) → is_idle past ≡ true → open_orders past ≡ []
none_open past idle = at (open_orders past) (not-true (list_any (λ (order : Open). true) (open_orders past)) idle) where
  at : (xs : List Open) → list_any (λ (order : Open). true) xs ≡ false → xs ≡ []
  at [] h = refl
  at (x ∷ xs) h = absurd (false≢true (sym h))

cleared_again : (id : List ℕ) (ask : OrderKind) (past : List Event) → is_idle past ≡ true
    → is_idle (Told id ∷ Asked id ask ∷ past) ≡ true
cleared_again id ask past idle = ap (λ orders. not (list_any (λ (order : Open). true)
    (filter (λ (order : Open). not (same_id id order.id)) (record { id = id; ask = ask }
    ∷ filter (λ (order : Open). not (same_id id order.id)) orders)))) (none_open past idle) ∙ ap (λ b. not
    (list_any (λ (order : Open). true) (cond (not b) (record { id = id; ask = ask } ∷ []) []))) (same_id-self id)

undone_again : (id : List ℕ) (ask : OrderKind) (past : List Event) → undone_of id (Asked id ask ∷ past) ≡ Some ask
undone_again id ask past = ap (λ b. cond b (Some ask) (undone_of id past)) (same_id-self id)

-- the rank of a step
behind : (p : Step → Bool) (xs ys : List Step) → list_any p ys ≡ true → list_any p (xs ++ ys) ≡ true
behind p xs ys h = list_any-append p xs ys ∙ or_right (list_any p xs) (list_any p ys) h

before : (p : Step → Bool) (xs ys : List Step) → list_any p xs ≡ true → list_any p (xs ++ ys) ≡ true
before p xs ys h = list_any-append p xs ys ∙ or_left (list_any p xs) (list_any p ys) h

abbrev to_six : Goal → List Event → List Step
to_six goal past = due_first goal (stage_of past) past ++ due_reexec past ++ due_reread past ++ due_level past
    ++ due_news past ++ due_stops past

in_looks : (goal : Goal) (it : Step) (past : List Event) → list_any (same_step it) (due_looks past) ≡ true
    → is_due goal it past ≡ true
in_looks goal it past h = behind (same_step it)
    (to_six goal past ++ due_starts past ++ due_stage goal past ++ due_settle past) (due_looks past) h

in_settle : (goal : Goal) (it : Step) (past : List Event) → list_any (same_step it) (due_settle past) ≡ true
    → is_due goal it past ≡ true
in_settle goal it past h = before (same_step it)
    (to_six goal past ++ due_starts past ++ due_stage goal past ++ due_settle past) (due_looks past)
    (behind (same_step it) (to_six goal past ++ due_starts past ++ due_stage goal past) (due_settle past) h)

in_starts : (goal : Goal) (it : Step) (past : List Event) → list_any (same_step it) (due_starts past) ≡ true
    → is_due goal it past ≡ true
in_starts goal it past h = before (same_step it) (to_six goal past ++ due_starts past ++ due_stage goal past
    ++ due_settle past) (due_looks past) (before (same_step it) (to_six goal past ++ due_starts past
    ++ due_stage goal past) (due_settle past) (before (same_step it) (to_six goal past ++ due_starts past)
    (due_stage goal past) (behind (same_step it) (to_six goal past) (due_starts past) h)))

look_due : (goal : Goal) (id : List ℕ) (past : List Event) → list_any (same_id id) (record_ids past) ≡ true
    → can_look id past ≡ true → is_due goal (step.Order id Look) past ≡ true
look_due goal id past there can = in_looks goal (step.Order id Look) past (listed (record_ids past) there) where
  here : (i : List ℕ) (b : Bool) → b ≡ true → same_id id i ≡ true
      → list_any (same_step (step.Order id Look)) (step_if b (step.Order i Look)) ≡ true
  here i true own same = or_left (same_id id i && true) false (and_from (same_id id i) true same refl)
  here i false own same = absurd (false≢true own)

  listed : (ids : List (List ℕ)) → list_any (same_id id) ids ≡ true
      → list_any (same_step (step.Order id Look)) (looks_among ids past) ≡ true
  listed [] h = absurd (false≢true h)
  listed (i ∷ ids) h = or_either (same_id id i) (list_any (same_id id) ids) h (λ same. before
      (same_step (step.Order id Look)) (step_if (can_look i past) (step.Order i Look)) (looks_among ids past) (here i
      (can_look i past) (ap (λ x. can_look x past) (sym (same_id-is id i same)) ∙ can) same)) (λ more. behind (same_step
      (step.Order id Look)) (step_if (can_look i past) (step.Order i Look)) (looks_among ids past) (listed ids more))

-- a child that is looked at and is dead by then
record Looked (goal : Goal) (id : List ℕ) (n : ℕ) (pre now : List Event) : Type 0 where
  sound : is_sound goal pre ≡ true
  undone : undone_of id pre ≡ Some Look
  dead : is_dead id n pre ≡ true
  orders : open_orders pre ≡ open_orders (Asked id Look ∷ now)
  unreaped : unreaped_children pre ≡ unreaped_children now
  known : known_children pre ≡ known_children now
  wishes : is_request_pending pre ≡ is_request_pending now
  stages : stage_of pre ≡ stage_of now
  kept : are_calls_pending pre ≡ are_calls_pending now
  looks : (i : List ℕ) → wants_look i pre ≡ (not (same_id i id) && wants_look i now)

few_left : (p : Child → Bool) (xs : List Child) → length (filter p xs) ≤ length xs
few_left p [] = grind arith
few_left p (x ∷ xs) = grind (arith, few_left p xs)

all_kept : (p q r : Child → Bool) → ((x : Child) → q x ≡ true → p x ≡ true → r x ≡ true) → (xs : List Child)
    → list_all p xs ≡ true → list_all r (filter q xs) ≡ true
all_kept p q r less [] h = grind arith
all_kept p q r less (x ∷ xs) h = grind (arith, all_kept p q r less xs)

abbrev all_want : List Event → Bool
all_want past = list_all (λ (child : Child). wants_look child.id past) (known_children past)

record Reaped_one (goal : Goal) (others : List Child) (past : List Event) : Type 0 where
  round : List Event
  state : Kind goal round past
  wants : all_want (round ++ past) ≡ true
  fewer : length (known_children (round ++ past)) ≤ length others

-- the first known child dies, is looked at, and its end is told
reap : (goal : Goal) (round past : List Event) → Kind goal round past → (child : Child) (others : List Child)
    → known_children (round ++ past) ≡ child ∷ others → all_want (round ++ past) ≡ true → Reaped_one goal others past
reap goal round past it child others is wants = by (is_dead id n now) refl where
  now : List Event
  now = round ++ past

  id : List ℕ
  id = child.id

  n : ℕ
  n = child.number

  there : has_child child.id (known_children now) ≡ true
  there = ap (has_child child.id) is
      ∙ or_left (same_id child.id child.id) (has_child child.id others) (same_id-self child.id)

  free : open_of child.id now ≡ None
  free = idle_none child.id now it.idle

  wanted : wants_look child.id now ≡ true
  wanted = (and_parts (wants_look child.id now) (list_all (λ (x : Child). wants_look x.id now) others)
      (sym (ap (list_all (λ (x : Child). wants_look x.id now)) is) ∙ wants)).0

  asks : is_due goal (step.Order child.id Look) now ≡ true
  asks = look_due goal child.id now (child_in_records goal now it.sound child.id there) (and_from
      (has_child child.id (known_children now) && is_none (open_of child.id now)) (wants_look child.id now) (and_from
      (has_child child.id (known_children now)) (is_none (open_of child.id now)) there (ap is_none free)) wanted)

  untold : is_untold child.id now ≡ false
  untold = free_told child.id now (sound_holds goal now it.sound).told free

  own : is_child child.id child.number child ≡ true
  own = and_from (same_id child.id child.id) (child.number == child.number) (same_id-self child.id)
      (eq-eqb child.number child.number refl)

  unreaped : list_any (is_child child.id child.number) (unreaped_children now) ≡ true
  unreaped = any_less (λ x. is_child_of child.id x && is_child child.id child.number x) (is_child child.id child.number)
      (λ x both. (and_parts (is_child_of child.id x) (is_child child.id child.number x) both).1) (unreaped_children now)
      (sym (same_of child.id (is_child child.id child.number) (known_children now) (unreaped_children now)
      (told_known child.id now untold))
      ∙ ap (list_any (λ x. is_child_of child.id x && is_child child.id child.number x)) is
      ∙ or_left (is_child_of child.id child && is_child child.id child.number child)
      (list_any (λ x. is_child_of child.id x && is_child child.id child.number x) others)
      (and_from (is_child_of child.id child) (is_child child.id child.number child) (same_id-self child.id) own))

  finish : (pre : List Event) → Looked goal child.id child.number (pre ++ past) now → list_all is_kind pre ≡ true
      → list_any is_nudge pre ≡ true → Reaped_one goal others past
  finish pre at kind nudged = record {
    round = Told child.id ∷ Reaped child.id child.number (Exit 0) ∷ pre;
    state = record {
      sound = and_from (is_untold child.id (Reaped child.id child.number (Exit 0) ∷ (pre ++ past)))
          (is_sound goal (Reaped child.id child.number (Exit 0) ∷ (pre ++ past))) (or_left (same_id child.id child.id)
          (is_untold child.id (pre ++ past)) (same_id-self child.id)) (and_from (may_come goal
          (Reaped child.id child.number (Exit 0)) (pre ++ past)) (is_sound goal (pre ++ past)) (and_from (is_order Look
          (undone_of child.id (pre ++ past))
          && list_any (is_child child.id child.number) (unreaped_children (pre ++ past)))
          (is_dead child.id child.number (pre ++ past)) (and_from (is_order Look (undone_of child.id (pre ++ past)))
          (list_any (is_child child.id child.number) (unreaped_children (pre ++ past))) (ap (is_order Look) at.undone)
          (ap (list_any (is_child child.id child.number)) at.unreaped ∙ unreaped)) at.dead) at.sound);
      idle = ap (λ orders. not (list_any (λ (order : Open). true) (filter
          (λ (order : Open). not (same_id child.id order.id)) orders))) at.orders
          ∙ cleared_again child.id Look now it.idle;
      kind = kind;
      nudged = nudged;
      staged = ap is_some at.stages ∙ it.staged;
      news = at.kept ∙ it.news;
      unwished = at.wishes ∙ it.unwished;
    };
    wants = ap (list_all (λ (x : Child). wants_look x.id (Told child.id ∷ Reaped child.id child.number (Exit 0)
        ∷ (pre ++ past)))) left ∙ all_kept (λ (x : Child). wants_look x.id now) (λ x. not (is_child_of child.id x))
        (λ (x : Child). wants_look x.id (pre ++ past)) (λ x other want. at.looks x.id ∙ and_from
        (not (same_id x.id child.id)) (wants_look x.id now) (ap not (same_id-sym x.id child.id) ∙ other) want) others
        (and_parts (wants_look child.id now) (list_all (λ (x : Child). wants_look x.id now) others)
        (sym (ap (list_all (λ (x : Child). wants_look x.id now)) is) ∙ wants)).1;
    fewer = subst (λ xs. length xs ≤ length others) (sym left) (few_left (λ x. not (is_child_of child.id x)) others);
  } where
    none : filter (is_child_of child.id)
        (filter (λ x. not (is_child child.id child.number x)) (unreaped_children (pre ++ past))) ≡ []
    none = filter_none (is_child_of child.id)
        (filter (λ x. not (is_child child.id child.number x)) (unreaped_children (pre ++ past)))
        (ap
        (λ xs. list_any (is_child_of child.id) (filter (λ x. not (is_child child.id child.number x)) xs)) at.unreaped
        ∙ at_most (is_child_of child.id) (is_child child.id child.number) (λ x both. (and_parts (same_id child.id x.id)
        (child.number == x.number) both).0) (unreaped_children now) (one_child goal now it.sound child.id) unreaped)

    left : known_children (Told child.id ∷ Reaped child.id child.number (Exit 0) ∷ (pre ++ past))
        ≡ filter (λ x. not (is_child_of child.id x)) others
    left = ap (λ xs. xs ++ filter (λ x. not (is_child_of child.id x)) (known_children (pre ++ past))) none
        ∙ ap (filter (λ x. not (is_child_of child.id x))) (at.known ∙ is) ∙ ap (λ b. cond (not b) (child ∷ filter
        (λ x. not (is_child_of child.id x)) others) (filter (λ x. not (is_child_of child.id x)) others))
        (same_id-self child.id)

  asked : is_sound goal (Asked child.id Look ∷ now) ≡ true
  asked = and_from (is_due goal (step.Order child.id Look) now) (is_sound goal now) asks it.sound

  living : is_dead child.id child.number now ≡ false → is_living child.number (Asked child.id Look ∷ now) ≡ true
  living alive = any_less (is_child child.id child.number) (λ x. has_number child.number x && not (is_dead x.id
      child.number now)) (λ x both. let parts = and_parts (same_id child.id x.id) (child.number == x.number) both in
      and_from (has_number child.number x) (not (is_dead x.id child.number now)) parts.1 (ap (λ i. not (is_dead i
      child.number now)) (sym (same_id-is child.id x.id parts.0)) ∙ ap not alive)) (unreaped_children now) unreaped

  by : (b : Bool) → is_dead child.id child.number now ≡ b → Reaped_one goal others past
  by true dead = finish (Asked child.id Look ∷ round) (record {
    sound = asked;
    undone = undone_again child.id Look now;
    dead = dead;
    orders = refl;
    unreaped = refl;
    known = refl;
    wishes = refl;
    stages = refl;
    kept = refl;
    looks = λ i. refl;
  }) it.kind it.nudged
  by false alive = finish (Death child.number ∷ Asked child.id Look ∷ round) (record {
    sound = and_from (is_living child.number (Asked child.id Look ∷ now)) (is_sound goal (Asked child.id Look ∷ now))
        (living alive) asked;
    undone = undone_again child.id Look now;
    dead =
        or_left (child.number == child.number) (is_dead child.id child.number now)
        (eq-eqb child.number child.number refl);
    orders = refl;
    unreaped = refl;
    known = refl;
    wishes = refl;
    stages = refl;
    kept = refl;
    looks = λ i. refl;
  }) it.kind it.nudged

record Bare (goal : Goal) (past : List Event) : Type 0 where
  round : List Event
  state : Kind goal round past
  none : known_children (round ++ past) ≡ []

reap_all : (goal : Goal) (past : List Event) (k : ℕ) (round : List Event) → Kind goal round past
    → all_want (round ++ past) ≡ true → length (known_children (round ++ past)) ≤ k → Bare goal past
reap_all goal past zero round it wants few = at (known_children (round ++ past)) refl where
  at : (xs : List Child) → known_children (round ++ past) ≡ xs → Bare goal past
  at [] is = record { round = round; state = it; none = is }
  at (x ∷ xs) is = absurd (wrong (length (known_children (round ++ past))) (length xs) few (ap length is)) where
    wrong : (a b : ℕ) → a ≤ 0 → a ≡ suc b → ⊥
    wrong a b h is = omega arith
reap_all goal past (suc k) round it wants few = at (λ (one : List Event)
    (state : Kind goal one past). reap_all goal past k one state) (known_children (round ++ past)) refl where
      at : ((one : List Event) → Kind goal one past → all_want (one ++ past) ≡ true
          → length (known_children (one ++ past))
          ≤ k → Bare goal past) → (xs : List Child) → known_children (round ++ past) ≡ xs → Bare goal past
      at rest [] is = record { round = round; state = it; none = is }
      at rest (x ∷ xs) is = on (reap goal round past it x xs is wants) where
        on : Reaped_one goal xs past → Bare goal past
        on one = rest one.round one.state one.wants (less (length (known_children (round ++ past))) (length xs)
            (length (known_children (one.round ++ past))) few (ap length is) one.fewer) where
              less : (a b c : ℕ) → a ≤ suc k → a ≡ suc b → c ≤ b → c ≤ k
              less a b c h is i = omega arith

-- the round begins
begun : (goal : Goal) (past : List Event) → is_sound goal past ≡ true → is_idle past ≡ true
    → is_request_pending past ≡ false → is_some (stage_of past) ≡ true → are_calls_pending past ≡ false
    → Kind goal (Nudge ∷ []) past × (all_want (Nudge ∷ past) ≡ true)
begun goal past sound idle unwished staged news = (
  record {
    sound = sound;
    idle = idle;
    kind = refl;
    nudged = refl;
    staged = staged;
    news = news;
    unwished = unwished;
  },
  all_from (λ (child : Child). has_child child.id (known_children past)) (known_children past) (false_from_ne_true
      (list_any (λ (child : Child). not (has_child child.id (known_children past))) (known_children past))
      (λ some. wrong
      (passing (λ (child : Child). not (has_child child.id (known_children past))) (known_children past) some))),
) where
  wrong : Passing (λ (child : Child). not (has_child child.id (known_children past))) (known_children past) → ⊥
  wrong there = both_ways (has_child there.item.id (known_children past)) (there.within (is_child_of there.item.id)
      (same_id-self there.item.id)) (not-true (has_child there.item.id (known_children past)) there.passes)

-- then what can start is started, and its child is born
abbrev num : Bool → ℕ
num b = cond b 1 0

num_less : (b c : Bool) → (b ≡ true → c ≡ true) → num b ≤ num c
num_less true true h = omega arith
num_less true false h = absurd (false≢true (h refl))
num_less false true h = omega arith
num_less false false h = omega arith

abbrev weight : List Event → Entry → ℕ
weight past e = cond (is_limited e.act)
    (num (not (has_child e.id (kept_children past))) + num (not (is_held e.id past))) (num (is_wanted e past))

abbrev total : (Entry → ℕ) → List Entry → ℕ
total f [] = 0
total f (e ∷ es) = f e + total f es

total_less : (f g : Entry → ℕ) → ((e : Entry) → f e ≤ g e) → (es : List Entry) → total f es ≤ total g es
total_less f g less [] = omega arith
total_less f g less (e ∷ es) = let here = less e in let rest = total_less f g less es in omega (arith, here, rest)

total_lower : (f g : Entry → ℕ) → ((e : Entry) → f e ≤ g e) → (id : List ℕ) (x : Entry) (es : List Entry)
    → entry_of id es ≡ Some x → f x < g x → total f es < total g es
total_lower f g less id x [] found lower = grind (arith, none-some, total_less, same_Some)
total_lower f g less id x (e ∷ es) found lower =
    grind (arith, total_lower f g less id x es, none-some, total_less, same_Some)

abbrev left : List Event → ℕ
left past = total (weight past) (table_of past) + num (not (is_announced past))

record Free (goal : Goal) (round past : List Event) : Type 0 where
  kind : Kind goal round past
  bare : list_any (λ (child : Child). wants_look child.id (round ++ past)) (known_children (round ++ past)) ≡ false
  spared : list_any (is_excluded (round ++ past)) (kept_children (round ++ past)) ≡ false
  gone : (id : List ℕ) → has_child id (kept_children (round ++ past)) ≡ true → list_any (is_start_of id) round ≡ true

record Further (goal : Goal) (past : List Event) (n : ℕ) (o : Option Stage) : Type 0 where
  round : List Event
  state : Free goal round past
  lower : left (round ++ past) < n
  stays : stage_of (round ++ past) ≡ o

-- the number of stages above
abbrev above : Option Stage → ℕ
above None = 3
above (Some stage.Sysinit) = 2
above (Some stage.Boot) = 1
above (Some (stage.Run level)) = 0

record Higher (goal : Goal) (past : List Event) (n : ℕ) : Type 0 where
  round : List Event
  state : Free goal round past
  higher : above (stage_of (round ++ past)) < n

-- a number that no unreaped child has
fresh : (xs : List Child) (n : ℕ) → greatest (λ (child : Child). child.number) xs < n
    → list_any (has_number n) xs ≡ false
fresh [] n h = grind arith
fresh (x ∷ xs) n h = grind (arith, fresh xs n)

starting : (goal : Goal) (round past : List Event) → Free goal round past → (i : List ℕ) → is_due goal
    (step.Order i Start) (round ++ past) ≡ true → Further goal past (left (round ++ past)) (stage_of (round ++ past))
starting goal round past it i asks = record {
  round = Told i ∷ Birth i n ∷ Asked i Start ∷ round;
  state = record {
    kind = record {
      sound = and_from (is_untold i (Birth i n ∷ Asked i Start ∷ now)) (is_sound goal (Birth i n ∷ Asked i Start ∷ now))
          (or_left (same_id i i) (is_untold i (Asked i Start ∷ now)) (same_id-self i)) born;
      idle = cleared_again i Start now it.kind.idle;
      kind = it.kind.kind;
      nudged = it.kind.nudged;
      staged = it.kind.staged;
      news = it.kind.news;
      unwished = it.kind.unwished;
    };
    bare = false_from_ne_true (list_any (λ (child : Child). wants_look child.id
        (Told i ∷ Birth i n ∷ Asked i Start ∷ now)) (known_children (Told i ∷ Birth i n ∷ Asked i Start ∷ now)))
        (λ some. wanting (told_any (λ (child : Child). wants_look child.id (Told i ∷ Birth i n ∷ Asked i Start ∷ now)) i
        (unreaped_children (Birth i n ∷ Asked i Start ∷ now)) (known_children now) some));
    spared = spared_step goal (Told i) (Birth i n ∷ Asked i Start ∷ now)
        (or_left (same_id i i) (is_untold i (Asked i Start ∷ now)) (same_id-self i)) born refl
        (spared_step goal (Birth i n) (Asked i Start ∷ now) may_birth asked refl it.spared);
    gone = λ id there. gone_or_begun id (same_id id i) refl there;
  };
  lower = add (total (weight (Told i ∷ Birth i n ∷ Asked i Start ∷ now)) (table_of now)) (total (weight now)
      (table_of now)) (num (not (is_announced now))) (total_lower (weight (Told i ∷ Birth i n ∷ Asked i Start ∷ now))
      (weight now) each i may.run.entry (table_of now)
      (may.run.found (sound_holds goal now it.kind.sound).distinct) own);
  stays = refl;
} where
  now : List Event
  now = round ++ past

  n : ℕ
  n = suc (greatest (λ (child : Child). child.number) (unreaped_children now))

  may : MayStart i (table_of now) now
  may = due_facts goal now (step.Order i Start) asks

  asked : is_sound goal (Asked i Start ∷ now) ≡ true
  asked = and_from (is_due goal (step.Order i Start) now) (is_sound goal now) asks it.kind.sound

  may_birth : may_come goal (Birth i n) (Asked i Start ∷ now) ≡ true
  may_birth = and_from (is_order Start (undone_of i (Asked i Start ∷ now)))
      (not (list_any (has_number n) (unreaped_children now))) (ap (is_order Start) (undone_again i Start now))
      (not_from (list_any (has_number n) (unreaped_children now)) (fresh (unreaped_children now) n (omega arith)))

  born : is_sound goal (Birth i n ∷ Asked i Start ∷ now) ≡ true
  born =
      and_from (may_come goal (Birth i n) (Asked i Start ∷ now)) (is_sound goal (Asked i Start ∷ now)) may_birth asked

  wanting : (list_any (λ child. is_child_of i child && wants_look child.id (Told i ∷ Birth i n ∷ Asked i Start ∷ now))
      (unreaped_children (Birth i n ∷ Asked i Start ∷ now)) ≡ true) ⊎ (list_any (λ child. not (is_child_of i child)
      && wants_look child.id (Told i ∷ Birth i n ∷ Asked i Start ∷ now)) (known_children now) ≡ true) → ⊥
  wanting (inl h) = wrong (passing (λ child. is_child_of i child && wants_look child.id
      (Told i ∷ Birth i n ∷ Asked i Start ∷ now)) (unreaped_children (Birth i n ∷ Asked i Start ∷ now)) h) where
        wrong : Passing (λ child. is_child_of i child && wants_look child.id (Told i ∷ Birth i n ∷ Asked i Start ∷ now))
            (unreaped_children (Birth i n ∷ Asked i Start ∷ now)) → ⊥
        wrong there =
            let parts =
            and_parts (is_child_of i there.item)
            (not (same_id there.item.id i) && wants_look there.item.id now) there.passes in
            both_ways (same_id there.item.id i) (same_id-flip i there.item.id parts.0)
            (not-true (same_id there.item.id i)
            (and_parts (not (same_id there.item.id i)) (wants_look there.item.id now) parts.1).0)
  wanting (inr h) = both_ways (list_any (λ (child : Child). wants_look child.id now) (known_children now))
      (any_less (λ child. not (is_child_of i child) && wants_look child.id (Told i ∷ Birth i n ∷ Asked i Start ∷ now))
      (λ child. wants_look child.id now) (λ child both. (and_parts (not (same_id child.id i)) (wants_look child.id now)
      (and_parts (not (is_child_of i child)) (not (same_id child.id i) && wants_look child.id now) both).1).1)
      (known_children now) h) it.bare

  -- its child is kept
  kept_here : (id : List ℕ) → same_id id i ≡ true
      → has_child id (kept_children (Told i ∷ Birth i n ∷ Asked i Start ∷ now)) ≡ true
  kept_here id same = same_has id (kept_children (Told i ∷ Birth i n ∷ Asked i Start ∷ now)) (unreaped_children (Birth i
      n ∷ Asked i Start ∷ now)) (told_same id i (unreaped_children (Birth i n ∷ Asked i Start ∷ now)) (kept_children
      (Birth i n ∷ Asked i Start ∷ now)) same) ∙ or_left (same_id id i) (has_child id (unreaped_children now)) same

  kept_on : (id : List ℕ) (b : Bool) → same_id id i ≡ b → has_child id (kept_children now) ≡ true
      → has_child id (kept_children (Told i ∷ Birth i n ∷ Asked i Start ∷ now)) ≡ true
  kept_on id true same there = kept_here id same
  kept_on id false differ there = same_has id (kept_children (Told i ∷ Birth i n ∷ Asked i Start ∷ now))
      (kept_children (Birth i n ∷ Asked i Start ∷ now)) (told_other id i
      (unreaped_children (Birth i n ∷ Asked i Start ∷ now)) (kept_children (Birth i n ∷ Asked i Start ∷ now)) differ)
      ∙ or_right (same_id id i) (has_child id (kept_children now)) there

  gone_or_begun : (id : List ℕ) (b : Bool) → same_id id i ≡ b → has_child id (kept_children (Told i ∷ Birth i n
      ∷ Asked i Start ∷ now)) ≡ true → list_any (is_start_of id) (Told i ∷ Birth i n ∷ Asked i Start ∷ round) ≡ true
  gone_or_begun id true same there = or_left (same_id id i) (list_any (is_start_of id) round) same
  gone_or_begun id false differ there = or_right (same_id id i) (list_any (is_start_of id) round)
      (or_either (same_id id i) (has_child id (kept_children now)) (sym (same_has id (kept_children
      (Told i ∷ Birth i n ∷ Asked i Start ∷ now)) (kept_children (Birth i n ∷ Asked i Start ∷ now)) (told_other id i
      (unreaped_children (Birth i n ∷ Asked i Start ∷ now)) (kept_children (Birth i n ∷ Asked i Start ∷ now)) differ))
      ∙ there) (λ same. both_ways (same_id id i) same differ) (it.gone id))

  childless_less : (a b : Bool) → (b ≡ true → a ≡ true) → num (not a) ≤ num (not b)
  childless_less true b h = least (num (not b)) where
    least : (x : ℕ) → 0 ≤ x
    least x = omega arith
  childless_less false true h = absurd (false≢true (h refl))
  childless_less false false h = omega arith

  each : (e : Entry) → weight (Told i ∷ Birth i n ∷ Asked i Start ∷ now) e ≤ weight now e
  each e = at (is_limited e.act) refl where
    at : (b : Bool) → is_limited e.act ≡ b → cond b (num (not (has_child e.id (kept_children (Told i ∷ Birth i n ∷ Asked
        i Start ∷ now)))) + num (not (is_held e.id now))) (num (is_wanted e (Told i ∷ Birth i n ∷ Asked i Start ∷ now)))
        ≤ cond b (num (not (has_child e.id (kept_children now))) + num (not (is_held e.id now))) (num (is_wanted e now))
    at true limited = plus (num (not (has_child e.id (kept_children (Told i ∷ Birth i n ∷ Asked i Start ∷ now)))))
        (num (not (has_child e.id (kept_children now)))) (num (not (is_held e.id now)))
        (childless_less (has_child e.id (kept_children (Told i ∷ Birth i n ∷ Asked i Start ∷ now)))
        (has_child e.id (kept_children now)) (kept_on e.id (same_id e.id i) refl)) where
          plus : (a b c : ℕ) → a ≤ b → a + c ≤ b + c
          plus a b c h = omega arith
    at false limited = num_less (is_wanted e (Told i ∷ Birth i n ∷ Asked i Start ∷ now)) (is_wanted e now)
        (λ h. calm_before e (Asked i Start) now limited refl (calm_before e (Birth i n)
        (Asked i Start ∷ now) limited refl (calm_before e (Told i) (Birth i n ∷ Asked i Start ∷ now) limited refl h)))

  own : weight (Told i ∷ Birth i n ∷ Asked i Start ∷ now) may.run.entry < weight now may.run.entry
  own = at (is_limited may.run.entry.act) refl where
    e : Entry
    e = may.run.entry

    at : (b : Bool) → is_limited may.run.entry.act ≡ b → cond b (num (not (has_child may.run.entry.id (kept_children
        (Told i ∷ Birth i n ∷ Asked i Start ∷ now)))) + num (not (is_held may.run.entry.id now))) (num (is_wanted
        may.run.entry (Told i ∷ Birth i n ∷ Asked i Start ∷ now))) < cond b (num (not (has_child may.run.entry.id
        (kept_children now))) + num (not (is_held may.run.entry.id now))) (num (is_wanted may.run.entry now))
    at true limited = plus (num (not (has_child may.run.entry.id (kept_children (Told i ∷ Birth i n ∷ Asked i Start
        ∷ now))))) (num (not (has_child may.run.entry.id (kept_children now)))) (num (not (is_held may.run.entry.id
        now))) (ap (λ b. num (not b)) (kept_here may.run.entry.id (same_id-from may.run.entry.id i may.run.own)))
        (ap (λ b. num (not b)) (ap (λ x. has_child x (kept_children now)) may.run.own ∙ may.run.childless)) where
          plus : (a b c : ℕ) → a ≡ 0 → b ≡ 1 → a + c < b + c
          plus a b c h k = omega arith
    at false limited = one (num (is_wanted may.run.entry (Told i ∷ Birth i n ∷ Asked i Start ∷ now)))
        (num (is_wanted may.run.entry now)) (ap num (false_from_ne_true (is_wanted may.run.entry
        (Told i ∷ Birth i n ∷ Asked i Start ∷ now)) (λ h. both_ways (is_wanted may.run.entry (Asked i Start ∷ now))
        (calm_before may.run.entry (Birth i n) (Asked i Start ∷ now) limited refl (calm_before may.run.entry (Told i)
        (Birth i n ∷ Asked i Start ∷ now) limited refl h)) (subst (λ x. is_wanted may.run.entry (Asked x Start ∷ now)
        ≡ false) may.run.own (not_again may.run.entry now limited))))) (ap num may.run.wanted) where
          one : (a b : ℕ) → a ≡ 0 → b ≡ 1 → a < b
          one a b h k = omega arith

  add : (a b c : ℕ) → a < b → a + c < b + c
  add a b c h = omega arith

holding : (goal : Goal) (round past : List Event) → Free goal round past → (i : List ℕ) → is_due goal (step.Hold i)
    (round ++ past) ≡ true → Further goal past (left (round ++ past)) (stage_of (round ++ past))
holding goal round past it i asks = record {
  round = Hold i ∷ round;
  state = record {
    kind = record {
      sound = and_from (is_due goal (step.Hold i) now) (is_sound goal now) asks it.kind.sound;
      idle = it.kind.idle;
      kind = it.kind.kind;
      nudged = it.kind.nudged;
      staged = it.kind.staged;
      news = it.kind.news;
      unwished = it.kind.unwished;
    };
    bare = it.bare;
    spared = it.spared;
    gone = it.gone;
  };
  lower = add (total (weight (Hold i ∷ now)) (table_of now)) (total (weight now) (table_of now))
      (num (not (is_announced now)))
      (total_lower (weight (Hold i ∷ now)) (weight now) each i may.run.entry (table_of now)
      (may.run.found (sound_holds goal now it.kind.sound).distinct) own);
  stays = refl;
} where
  now : List Event
  now = round ++ past

  may : MayHold i (table_of now) now
  may = due_facts goal now (step.Hold i) asks

  held_on : (id : List ℕ) → is_held id now ≡ true → is_held id (Hold i ∷ now) ≡ true
  held_on id h = at (same_id id i) where
    at : (b : Bool) → list_any (λ began. nat_lt (time_of now) (began + HOLD))
        (cond b (time_of now ∷ hold_times id now) (hold_times id now)) ≡ true
    at true = or_right (nat_lt (time_of now) (time_of now + HOLD)) (is_held id now) h
    at false = h

  held_here : (id : List ℕ) → id ≡ i → is_held id (Hold i ∷ now) ≡ true
  held_here id is = ap (λ b. list_any (λ began. nat_lt (time_of now) (began + HOLD)) (cond b
      (time_of now ∷ hold_times id now) (hold_times id now))) (same_id-from id i is) ∙ or_left (nat_lt (time_of now)
      (time_of now + HOLD)) (is_held id now) (le-leb (suc (time_of now)) (time_of now + HOLD) (omega arith))

  less_not : (a b : Bool) → (b ≡ true → a ≡ true) → num (not a) ≤ num (not b)
  less_not true b h = least (num (not b)) where
    least : (x : ℕ) → 0 ≤ x
    least x = omega arith
  less_not false true h = absurd (false≢true (h refl))
  less_not false false h = omega arith

  each : (e : Entry) → weight (Hold i ∷ now) e ≤ weight now e
  each e = at (is_limited e.act) where
    at : (b : Bool) → cond b (num (not (has_child e.id (kept_children now))) + num (not (is_held e.id (Hold i ∷ now))))
        (num (is_wanted e now))
        ≤ cond b (num (not (has_child e.id (kept_children now))) + num (not (is_held e.id now))) (num (is_wanted e now))
    at true = plus (num (not (has_child e.id (kept_children now)))) (num (not (is_held e.id (Hold i ∷ now))))
        (num (not (is_held e.id now))) (less_not (is_held e.id (Hold i ∷ now)) (is_held e.id now) (held_on e.id)) where
          plus : (c a b : ℕ) → a ≤ b → c + a ≤ c + b
          plus c a b h = omega arith
    at false = same (num (is_wanted e now)) where
      same : (x : ℕ) → x ≤ x
      same x = omega arith

  own : weight (Hold i ∷ now) may.run.entry < weight now may.run.entry
  own = at (is_limited may.run.entry.act) may.limited where
    at : (b : Bool) → b ≡ true → cond b (num (not (has_child may.run.entry.id (kept_children now))) + num
        (not (is_held may.run.entry.id (Hold i ∷ now)))) (num (is_wanted may.run.entry now))
        < cond b (num (not (has_child may.run.entry.id (kept_children now))) + num (not (is_held may.run.entry.id now)))
        (num (is_wanted may.run.entry now))
    at false limited = absurd (false≢true limited)
    at true limited = plus (num (not (has_child may.run.entry.id (kept_children now)))) (num (not (is_held
        may.run.entry.id (Hold i ∷ now)))) (num (not (is_held may.run.entry.id now))) (ap (λ b. num (not b)) (held_here
        may.run.entry.id may.run.own)) (ap (λ b. num (not b)) (ap (λ x. is_held x now) may.run.own ∙ may.free)) where
          plus : (c a b : ℕ) → a ≡ 0 → b ≡ 1 → c + a < c + b
          plus c a b h k = omega arith

  add : (a b c : ℕ) → a < b → a + c < b + c
  add a b c h = omega arith

settling : (goal : Goal) (round past : List Event) → Free goal round past → (level : Level)
    → is_due goal (step.Settle level) (round ++ past) ≡ true → is_announced (round ++ past) ≡ false
    → Further goal past (left (round ++ past)) (stage_of (round ++ past))
settling goal round past it level asks untold = record {
  round = Settle level ∷ round;
  state = record {
    kind = record {
      sound =
          and_from (is_due goal (step.Settle level) (round ++ past)) (is_sound goal (round ++ past)) asks it.kind.sound;
      idle = it.kind.idle;
      kind = it.kind.kind;
      nudged = it.kind.nudged;
      staged = it.kind.staged;
      news = it.kind.news;
      unwished = it.kind.unwished;
    };
    bare = it.bare;
    spared = it.spared;
    gone = it.gone;
  };
  lower = add (total (weight (round ++ past)) (table_of (round ++ past))) (num (not (is_announced (round ++ past))))
      (ap (λ b. num (not b)) untold);
  stays = refl;
} where
  add : (a b : ℕ) → b ≡ 1 → a + 0 < a + b
  add a b h = omega arith

-- if none of these is due, nothing is due
abbrev is_start_step : Step → Bool
is_start_step (step.Order id Start) = true
is_start_step (step.Hold id) = true
is_start_step _ = false

starts_are : (es : List Entry) (past : List Event) → Each (λ x. is_start_step x ≡ true) (starts_among es past)
starts_are [] past = tt
starts_are (e ∷ es) past = each_append (λ x. is_start_step x ≡ true) (steps_if (can_start e past) (start_steps e past))
    (cond (is_owed e past) [] (starts_among es past)) (each_steps_if (λ x. is_start_step x ≡ true) (can_start e past)
    (start_steps e past) (λ _. by (is_limited e.act))) (later (is_owed e past) (starts_are es past)) where
      window : (full : Bool)
          → Each (λ x. is_start_step x ≡ true) (cond full (step.Hold e.id) (step.Order e.id Start) ∷ [])
      window true = (refl, tt)
      window false = (refl, tt)

      by : (limited : Bool) → Each (λ x. is_start_step x ≡ true) (cond limited (steps_if (not (is_held e.id past))
          (cond (is_full e.id past) (step.Hold e.id) (step.Order e.id Start) ∷ [])) (step.Order e.id Start ∷ []))
      by true = each_steps_if (λ x. is_start_step x ≡ true) (not (is_held e.id past))
          (cond (is_full e.id past) (step.Hold e.id) (step.Order e.id Start) ∷ []) (λ _. window (is_full e.id past))
      by false = (refl, tt)

      later : (b : Bool) → Each (λ x. is_start_step x ≡ true) (starts_among es past)
          → Each (λ x. is_start_step x ≡ true) (cond b [] (starts_among es past))
      later true rest = tt
      later false rest = rest

nil_join : (xs ys : List Step) → xs ≡ [] → ys ≡ [] → xs ++ ys ≡ []
nil_join xs ys p q = ap (λ x. x ++ ys) p ∙ q

no_stops : (ids : List (List ℕ)) (past : List Event) → list_any (is_excluded past) (known_children past) ≡ false
    → stops_among ids past ≡ []
no_stops [] past none = refl
no_stops (id ∷ ids) past none =
    nil_join (steps_if (is_none (open_of id past)) (stops_of id (known_children past) past)) (stops_among ids past)
    (inside (is_none (open_of id past)) (of_id (known_children past) none)) (no_stops ids past none) where
      inside : (b : Bool) → stops_of id (known_children past) past ≡ []
          → steps_if b (stops_of id (known_children past) past) ≡ []
      inside true h = h
      inside false h = refl

      of_id : (xs : List Child) → list_any (is_excluded past) xs ≡ false → stops_of id xs past ≡ []
      of_id [] h = refl
      of_id (x ∷ xs) h =
          let parts = or_parts (is_excluded past x) (list_any (is_excluded past) xs) h in
          nil_join (steps_if (is_child_of id x) (stop_step id (stop_due x past))) (stops_of id xs past)
          (one (is_child_of id x) (is_excluded past x) parts.0) (of_id xs parts.1) where
            one : (b c : Bool) → c ≡ false → steps_if b (stop_step id
                (cond (c && not (is_missed x past)) (stop_by (grace_of past) (time_of past) (spell_hits x past)) None))
                ≡ []
            one true false free = refl
            one false false free = refl
            one b true free = absurd (false≢true (sym free))

no_looks : (ids : List (List ℕ)) (past : List Event)
    → list_any (λ (child : Child). wants_look child.id past) (known_children past) ≡ false → looks_among ids past ≡ []
no_looks [] past none = refl
no_looks (id ∷ ids) past none = nil_join (step_if (can_look id past) (step.Order id Look)) (looks_among ids past) (ap
    (λ b. step_if b (step.Order id Look)) (false_from_ne_true (can_look id past) wrong)) (no_looks ids past none) where
      wrong : can_look id past ≡ true → ⊥
      wrong can =
          let outer =
          and_parts (has_child id (known_children past) && is_none (open_of id past)) (wants_look id past) can in
          both_ways (list_any (λ (child : Child). wants_look child.id past) (known_children past))
          (any_less (is_child_of id) (λ (child : Child). wants_look child.id past)
          (λ child own. ap (λ i. wants_look i past) (sym (same_id-is id child.id own)) ∙ outer.1) (known_children past)
          (and_parts (has_child id (known_children past)) (is_none (open_of id past)) outer.0).0) none

steps_none : (b : Bool) (xs : List Step) → xs ≡ [] → steps_if b xs ≡ []
steps_none true xs h = h
steps_none false xs h = refl

-- no request is pending
record Wishless (past : List Event) : Type 0 where
  reexec : wants_reexec past ≡ false
  reread : wants_reread past ≡ false
  level : is_some (level_wish past) ≡ false
  news : (in_run (stage_of past) && are_calls_pending past) ≡ false

wishless : (past : List Event) → is_request_pending past ≡ false → Wishless past
wishless past h =
    let p2 = or_parts (wants_reexec past || wants_reread past || is_some (level_wish past))
    (in_run (stage_of past) && are_calls_pending past) h in
    let p1 = or_parts (wants_reexec past || wants_reread past) (is_some (level_wish past)) p2.0 in
    let p0 = or_parts (wants_reexec past) (wants_reread past) p1.0 in
    record { reexec = p0.0; reread = p0.1; level = p1.1; news = p2.1 }

no_level : (past : List Event) (o : Option Goal) → is_some o ≡ false → enter_level o past ≡ []
no_level past o h = grind arith

no_news : (past : List Event) (running : Bool) → (running && are_calls_pending past) ≡ false
    → steps_if (is_quiet past && running) (power_steps powers past ++ letter_steps letters past) ≡ []
no_news past false h =
    ap (λ b. steps_if b (power_steps powers past ++ letter_steps letters past)) (and_false (is_quiet past))
no_news past true h = grind arith

all_rest : (goal : Goal) (past : List Event) → is_some (stage_of past) ≡ true → is_request_pending past ≡ false
    → list_any (is_excluded past) (known_children past) ≡ false
    → list_any (λ (child : Child). wants_look child.id past) (known_children past) ≡ false → due_starts past ≡ []
    → due_stage goal past ≡ [] → due_settle past ≡ [] → AtRest goal past
all_rest goal past staged unwished spared bare starts over settle =
    grind (arith, nil_join, no_looks, wishless, and_right, steps_none, no_level, no_news, no_stops)

-- the next stage is entered
in_stage : (goal : Goal) (it : Step) (past : List Event) → list_any (same_step it) (due_stage goal past) ≡ true
    → is_due goal it past ≡ true
in_stage goal it past h = before (same_step it) (to_six goal past ++ due_starts past ++ due_stage goal past
    ++ due_settle past) (due_looks past) (before (same_step it) (to_six goal past ++ due_starts past ++ due_stage goal
    past) (due_settle past) (behind (same_step it) (to_six goal past ++ due_starts past) (due_stage goal past) h))

climbing : (goal : Goal) (round past : List Event) → Free goal round past → (s : Stage) (n : ℕ) → is_over (round
    ++ past) ≡ true → next_stage (goal_of goal (round ++ past)) (stage_of (round ++ past)) ≡ step.Enter s (goal_of goal
    (round ++ past)).grace ∷ [] → is_climb (stage_of (round ++ past)) s ≡ true → above (Some s) < n → Higher goal past n
climbing goal round past it s n over next climbs lower = record {
  round = Enter s (goal_of goal now).grace ∷ round;
  state = record {
    kind = record {
      sound = and_from (is_due goal (step.Enter s (goal_of goal now).grace) now) (is_sound goal now) asks it.kind.sound;
      idle = it.kind.idle;
      kind = it.kind.kind;
      nudged = it.kind.nudged;
      unwished = or_from (wants_reexec now || wants_reread now || is_some (other_than (Some s) None)) (in_run (Some s)
          && are_calls_pending now) (or_from (wants_reexec now || wants_reread now) (is_some (other_than (Some s) None))
          (or_from (wants_reexec now) (wants_reread now) w.reexec w.reread) (no_other s))
          (and_right (in_run (Some s)) (are_calls_pending now) it.kind.news);
      staged = refl;
      news = it.kind.news;
    };
    bare = it.bare;
    spared = falsely (list_any (is_excluded (Enter s (goal_of goal now).grace ∷ now)) (kept_children now))
        (list_any (λ child. not (stands_by (table_of now) s child)) (kept_children now)) (any_less (is_excluded
        (Enter s (goal_of goal now).grace ∷ now)) (λ child. not (stands_by (table_of now) s child))
        (λ child own. not_from
        (stands_by (table_of now) s child)
        (false_from_ne_true (stands_by (table_of now) s child) (λ by. stands child own
        by (entry_of child.id (table_of now)) refl))) (kept_children now)) (bystanders_at now s over climbs);
    gone = it.gone;
  };
  higher = lower;
} where
  now : List Event
  now = round ++ past

  w : Wishless now
  w = wishless now it.kind.unwished

  no_other : (x : Stage) → is_some (other_than (Some x) None) ≡ false
  no_other stage.Sysinit = refl
  no_other stage.Boot = refl
  no_other (stage.Run l) = refl

  asks : is_due goal (step.Enter s (goal_of goal now).grace) now ≡ true
  asks = in_stage goal (step.Enter s (goal_of goal now).grace) now (ap (λ b. list_any (same_step
      (step.Enter s (goal_of goal now).grace)) (steps_if b (next_stage (goal_of goal now) (stage_of now)))) over
      ∙ ap (list_any (same_step (step.Enter s (goal_of goal now).grace))) next ∙ or_left (same_stage s s && (goal_of
      goal now).grace == (goal_of goal now).grace) false (and_from (same_stage s s) ((goal_of goal now).grace
      == (goal_of goal now).grace) (same_stage-self s) (eq-eqb (goal_of goal now).grace (goal_of goal now).grace refl)))

  stands : (child : Child) → is_excluded (Enter s (goal_of goal now).grace ∷ now) child ≡ true
      → stands_by (table_of now) s child ≡ true → (o : Option Entry) → entry_of child.id (table_of now) ≡ o → ⊥
  stands child own by None is = false≢true (ap (λ o. option_map_or (λ (x : Entry). may_live (Some x) child.act (Some s)
      && (not (waited_of x) && not (starts_of x s))) o false) (sym is) ∙ by)
  stands child own by (Some e) is = both_ways (may_live (Some e) child.act (Some s)) (and_parts (may_live
      (Some e) child.act (Some s)) (not (waited_of e) && not (starts_of e s)) (ap (λ o. option_map_or (λ (x : Entry).
      may_live (Some x) child.act (Some s) && (not (waited_of x) && not (starts_of x s))) o false) (sym is) ∙ by)).0
      (not-true (may_live (Some e) child.act (Some s)) (ap (λ o. not (may_live o child.act (Some s))) (sym is) ∙ own))

-- one more of these steps, or a rest
abbrev Goes : Goal → List Event → List Event → Type 0
Goes goal round past = (Further goal past (left (round ++ past)) (stage_of (round ++ past))
    ⊎ Higher goal past (above (stage_of (round ++ past)))) ⊎ AtRest goal (round ++ past)

go_on : (goal : Goal) (round past : List Event) → Free goal round past → Goes goal round past
go_on goal round past it = starts (starts_among (table_of now) now) refl (starts_are (table_of now) now) where
  now : List Event
  now = round ++ past

  spared_known : list_any (is_excluded now) (known_children now) ≡ false
  spared_known = falsely (list_any (is_excluded now) (known_children now))
      (list_any (is_excluded now) (kept_children now)) (known_kept (is_excluded now) now) it.spared

  rank7 : due_starts now ≡ starts_among (table_of now) now
  rank7 = ap (λ b. steps_if (not b && none_excluded now) (starts_among (table_of now) now)) it.kind.unwished
      ∙ ap (λ b. steps_if (not b) (starts_among (table_of now) now)) it.spared

  rests : due_starts now ≡ [] → due_stage goal now ≡ [] → due_settle now ≡ [] → Goes goal round past
  rests none over settle = inr (all_rest goal now it.kind.staged it.kind.unwished spared_known it.bare none over settle)

  in_run_level : (level : Level) → stage_of now ≡ Some (stage.Run level) → due_starts now ≡ [] → Goes goal round past
  in_run_level level is none = settles (is_announced now) (is_settled level (known_children now) now) refl refl where
    over : due_stage goal now ≡ []
    over =
        steps_none (is_over now) (next_stage (goal_of goal now) (stage_of now)) (ap (next_stage (goal_of goal now)) is)

    settles : (b c : Bool) → is_announced now ≡ b → is_settled level (known_children now) now ≡ c → Goes goal round past
    settles false true untold settled =
        inl (inl (settling goal round past it level (in_settle goal (step.Settle level) now (ap (list_any (same_step
        (step.Settle level))) rank9 ∙ or_left (same_level level level) false (same_level-self level))) untold)) where
          rank9 : due_settle now ≡ step.Settle level ∷ []
          rank9 = ap (λ b. steps_if (not b && is_idle now && not (is_announced now)) (settle_step (stage_of now) now))
              it.kind.unwished ∙ ap (λ b. steps_if (b && not (is_announced now)) (settle_step (stage_of now) now))
              it.kind.idle ∙ ap (λ b. steps_if (not b) (settle_step (stage_of now) now)) untold
              ∙ ap (λ o. settle_step o now) is ∙ ap (λ b. step_if b (step.Settle level)) settled
    settles false false untold unsettled = rests none over
        (steps_none (not (is_request_pending now) && is_idle now && not (is_announced now))
        (settle_step (stage_of now) now)
        (ap (λ o. settle_step o now) is ∙ ap (λ b. step_if b (step.Settle level)) unsettled))
    settles true c told settled = rests none over
        (ap (λ b. steps_if (not (is_request_pending now) && is_idle now && not b) (settle_step (stage_of now) now)) told
        ∙ ap (λ b. steps_if b (settle_step (stage_of now) now))
        (and_false (not (is_request_pending now) && is_idle now)))

  -- in Sysinit and Boot, by the stage that comes next
  early : (o : Option Stage) (s : Stage) → stage_of now ≡ o → next_stage (goal_of goal now) o
      ≡ step.Enter s (goal_of goal now).grace ∷ [] → is_climb o s ≡ true → above (Some s) < above o
      → settle_step o now ≡ [] → due_starts now ≡ [] → (b : Bool) → is_over now ≡ b → Goes goal round past
  early o s is next climbs lower quiet none true over =
      inl (inr (subst (λ x. Higher goal past (above x)) (sym is) (climbing goal round past it s (above o) over
      (ap (next_stage (goal_of goal now)) is ∙ next) (ap (λ x. is_climb x s) is ∙ climbs) lower)))
  early o s is next climbs lower quiet none false over = rests none (ap (λ b. steps_if b
      (next_stage (goal_of goal now) (stage_of now))) over) (steps_none (not (is_request_pending now) && is_idle now
      && not (is_announced now)) (settle_step (stage_of now) now) (ap (λ x. settle_step x now) is ∙ quiet))

  sysinit : (b : Bool) → same_level (goal_of goal now).level S ≡ b → stage_of now ≡ Some stage.Sysinit
      → due_starts now ≡ [] → Goes goal round past
  sysinit true to_s is none = early (Some stage.Sysinit) (stage.Run S) is (ap (λ b. step.Enter (cond b
      (stage.Run S) stage.Boot) (goal_of goal now).grace ∷ []) to_s) refl (omega arith) refl none (is_over now) refl
  sysinit false to_boot is none = early (Some stage.Sysinit) stage.Boot is (ap (λ b. step.Enter (cond b
      (stage.Run S) stage.Boot) (goal_of goal now).grace ∷ []) to_boot) refl (omega arith) refl none (is_over now) refl

  by_stage : (o : Option Stage) → stage_of now ≡ o → due_starts now ≡ [] → Goes goal round past
  by_stage None is none = both_ways (is_some (stage_of now)) it.kind.staged (ap is_some is)
  by_stage (Some stage.Sysinit) is none = sysinit (same_level (goal_of goal now).level S) refl is none
  by_stage (Some stage.Boot) is none = early (Some stage.Boot) (stage.Run (goal_of goal now).level) is refl refl
      (omega arith) refl none (is_over now) refl
  by_stage (Some (stage.Run level)) is none = in_run_level level is none

  starts : (xs : List Step) → starts_among (table_of now) now ≡ xs
      → Each (λ x. is_start_step x ≡ true) (starts_among (table_of now) now) → Goes goal round past
  starts [] is each = by_stage (stage_of now) refl (rank7 ∙ is)
  starts (x ∷ xs) is each = one x xs (subst (λ ys. Each (λ y. is_start_step y ≡ true) ys) is each).0 (rank7 ∙ is) where
    one : (y : Step) (ys : List Step) → is_start_step y ≡ true → due_starts now ≡ y ∷ ys → Goes goal round past
    one (step.Order id Start) ys own first = inl (inl (starting goal round past it id (in_starts goal (step.Order id
        Start) now (ap (list_any (same_step (step.Order id Start))) first ∙ or_left (same_id id id && true)
        (list_any (same_step (step.Order id Start)) ys) (and_from (same_id id id) true (same_id-self id) refl)))))
    one (step.Hold id) ys own first = inl
        (inl (holding goal round past it id (in_starts goal (step.Hold id) now (ap (list_any (same_step (step.Hold id)))
        first ∙ or_left (same_id id id) (list_any (same_step (step.Hold id)) ys) (same_id-self id)))))
    one _ ys own first = absurd (false≢true own)

record Rested (goal : Goal) (past : List Event) : Type 0 where
  round : List Event
  state : Free goal round past
  rest : AtRest goal (round ++ past)

-- within a stage, and from it to those above
along : (goal : Goal) (past : List Event) (j : ℕ) → ((one : List Event) → Free goal one past
    → suc (above (stage_of (one ++ past))) ≤ j → Rested goal past) → (k : ℕ) (round : List Event) → Free goal round past
    → above (stage_of (round ++ past)) ≤ j → left (round ++ past) ≤ k → Rested goal past
along goal past j higher zero round it low few = at (go_on goal round past it) where
  wrong : (a b : ℕ) → a < b → b ≤ 0 → ⊥
  wrong a b h i = omega arith

  up : (a b : ℕ) → a < b → b ≤ j → suc a ≤ j
  up a b h i = omega arith

  at : Goes goal round past → Rested goal past
  at (inl (inl one)) = absurd (wrong (left (one.round ++ past)) (left (round ++ past)) one.lower few)
  at (inl (inr one)) = higher one.round one.state
      (up (above (stage_of (one.round ++ past))) (above (stage_of (round ++ past))) one.higher low)
  at (inr rest) = record { round = round; state = it; rest = rest }
along goal past j higher (suc k) round it low few = at (λ (one : List Event)
    (state : Free goal one past). along goal past j higher k one state) (go_on goal round past it) where
      less : (a b : ℕ) → a < b → b ≤ suc k → a ≤ k
      less a b h i = omega arith

      up : (a b : ℕ) → a < b → b ≤ j → suc a ≤ j
      up a b h i = omega arith

      at : ((one : List Event) → Free goal one past → above (stage_of (one ++ past)) ≤ j → left (one ++ past) ≤ k
          → Rested goal past) → Goes goal round past → Rested goal past
      at again (inl (inl one)) = again one.round one.state (subst (λ o. above o ≤ j) (sym one.stays) low)
          (less (left (one.round ++ past)) (left (round ++ past)) one.lower few)
      at again (inl (inr one)) = higher one.round one.state
          (up (above (stage_of (one.round ++ past))) (above (stage_of (round ++ past))) one.higher low)
      at again (inr rest) = record { round = round; state = it; rest = rest }

same_most : (n : ℕ) → n ≤ n
same_most n = omega arith

to_rest : (goal : Goal) (past : List Event) (j : ℕ) (round : List Event) → Free goal round past
    → above (stage_of (round ++ past)) ≤ j → Rested goal past
to_rest goal past zero round it low = along goal past zero (λ one state h. absurd (wrong
    (above (stage_of (one ++ past))) h)) (left (round ++ past)) round it low (same_most (left (round ++ past))) where
      wrong : (a : ℕ) → suc a ≤ 0 → ⊥
      wrong a h = omega arith
to_rest goal past (suc j) round it low = along goal past (suc j) (λ one state h. to_rest goal past j one state (down
    (above (stage_of (one ++ past))) h)) (left (round ++ past)) round it low (same_most (left (round ++ past))) where
      down : (a : ℕ) → suc a ≤ suc j → a ≤ j
      down a h = omega arith

-- the result is an undisturbed round
asks_nothing : (round : List Event) → list_all is_kind round ≡ true → has_no_request round ≡ true
asks_nothing [] h = refl
asks_nothing (NewTable table ∷ round) h = absurd (false≢true h)
asks_nothing (Got request ∷ round) h = absurd (false≢true h)
asks_nothing (Call letter ∷ round) h = absurd (false≢true h)
asks_nothing (Power kind ∷ round) h = absurd (false≢true h)
asks_nothing (Still id ∷ round) h = absurd (false≢true h)
asks_nothing (NoLook id ∷ round) h = absurd (false≢true h)
asks_nothing (Miss id ∷ round) h = absurd (false≢true h)
asks_nothing (happening ∷ round) h = asks_nothing round h

none_vain : (id : List ℕ) (round : List Event) → list_all is_kind round ≡ true
    → list_any (is_vain_look id) round ≡ false
none_vain id [] h = refl
none_vain id (Still i ∷ round) h = absurd (false≢true h)
none_vain id (NoLook i ∷ round) h = absurd (false≢true h)
none_vain id (NewTable table ∷ round) h = absurd (false≢true h)
none_vain id (Got request ∷ round) h = absurd (false≢true h)
none_vain id (Call letter ∷ round) h = absurd (false≢true h)
none_vain id (Power kind ∷ round) h = absurd (false≢true h)
none_vain id (Miss i ∷ round) h = absurd (false≢true h)
none_vain id (happening ∷ round) h = none_vain id round h

heard : (id : List ℕ) (round past : List Event) → list_all is_kind round ≡ true → has_untold_miss id past ≡ false
    → has_untold_miss id (round ++ past) ≡ false
heard id [] past h told = told
heard id (Miss i ∷ round) past h told = absurd (false≢true h)
heard id (NewTable table ∷ round) past h told = absurd (false≢true h)
heard id (Got request ∷ round) past h told = absurd (false≢true h)
heard id (Call letter ∷ round) past h told = absurd (false≢true h)
heard id (Power kind ∷ round) past h told = absurd (false≢true h)
heard id (Still i ∷ round) past h told = absurd (false≢true h)
heard id (NoLook i ∷ round) past h told = absurd (false≢true h)
heard id (Birth i n ∷ round) past h told =
    and_right (not (same_id id i)) (has_untold_miss id (round ++ past)) (heard id round past h told)
heard id (Told i ∷ round) past h told =
    and_right (not (same_id id i)) (has_untold_miss id (round ++ past)) (heard id round past h told)
heard id (happening ∷ round) past h told = heard id round past h told

unmissed : (child : Child) (round past : List Event) → list_all is_kind round ≡ true → list_any is_nudge round ≡ true
    → has_untold_miss child.id past ≡ false → is_missed child (round ++ past) ≡ false
unmissed child [] past h nudged told = absurd (false≢true nudged)
unmissed child (Nudge ∷ round) past h nudged told = refl
unmissed child (Told i ∷ round) past h nudged told = and_right (in_spell child (Told i) (round ++ past))
    (tells_miss child (Told i) (round ++ past) || is_missed child (round ++ past)) (or_from (tells_miss child (Told i)
    (round ++ past)) (is_missed child (round ++ past)) (and_right (same_id child.id i) (has_untold_miss child.id
    (round ++ past)) (heard child.id round past h told)) (unmissed child round past h nudged told))
unmissed child (happening ∷ round) past h nudged told =
    and_right (in_spell child happening (round ++ past)) (is_missed child (round ++ past))
    (unmissed child round past (and_parts (is_kind happening) (list_all is_kind round) h).1 nudged told)

all_pass : (p : Child → Bool) → ((x : Child) → p x ≡ true) → (xs : List Child) → list_all p xs ≡ true
all_pass p each [] = refl
all_pass p each (x ∷ xs) = and_from (p x) (list_all p xs) (each x) (all_pass p each xs)

undisturbed : (goal : Goal) (round past : List Event) → is_sound goal past ≡ true → is_idle past ≡ true
    → Free goal round past → is_undisturbed round past ≡ true
undisturbed goal round past sound idle it =
    and_from (has_no_request round && list_any is_nudge round && makes_kills_due round past
    && ends) hits
    (and_from (has_no_request round && list_any is_nudge round && makes_kills_due round past) ends (and_from
    (has_no_request round && list_any is_nudge round) (makes_kills_due round past)
    (and_from (has_no_request round) (list_any is_nudge
    round) (asks_nothing round it.kind.kind) it.kind.nudged) (or_right (nat_le (time_of past + grace_of past) (time_of
    (round ++ past))) (list_all (is_gone round past) (filter (has_kill_to_come past) (kept_children past))) (all_pass
    (is_gone round past) (λ child. left child.id (has_child child.id (kept_children (round ++ past))) refl) (filter
    (has_kill_to_come past) (kept_children past))))) (all_pass (λ child. is_found_ended child.id round) (λ child.
    or_right (list_any (is_end_seen child.id) round) (not (list_any (is_vain_look child.id) round)) (not_from (list_any
    (is_vain_look child.id) round) (none_vain child.id round it.kind.kind))) (filter (has_to_end past) (kept_children
    past)))) (all_pass (λ child. not (is_missed child (round ++ past))) (λ child. not_from (is_missed child (round
    ++ past)) (unmissed child round past it.kind.kind it.kind.nudged (misses_told child.id past (free_told child.id past
    (sound_holds goal past sound).told (idle_none child.id past idle))))) (kept_children (round ++ past))) where
      ends : Bool
      ends = list_all (λ child. is_found_ended child.id round) (filter (has_to_end past) (kept_children past))

      hits : Bool
      hits = list_all (λ child. not (is_missed child (round ++ past))) (kept_children (round ++ past))

      left : (id : List ℕ) (b : Bool) → has_child id (kept_children (round ++ past)) ≡ b
          → (not b || list_any (is_start_of id) round) ≡ true
      left id true there = it.gone id there
      left id false none = refl

-- at the beginning no known child is left
first_free : (goal : Goal) (past : List Event) (bare : Bare goal past) → Free goal bare.round past
first_free goal past it = record {
  kind = it.state;
  bare = ap (list_any (λ (child : Child). wants_look child.id (it.round ++ past))) it.none;
  spared = false_from_ne_true (list_any (is_excluded (it.round ++ past)) (kept_children (it.round ++ past)))
      (λ some. false≢true (sym (ap (list_any (is_excluded (it.round ++ past))) it.none)
      ∙ same_any (is_excluded (it.round ++ past)) (kept_children (it.round ++ past)) (known_children (it.round ++ past))
      (quiet_known goal (it.round ++ past) it.state.sound (idle_quiet (it.round ++ past) it.state.idle)) some));
  gone = λ id there. absurd (false≢true (sym (ap (has_child id) it.none) ∙ sym (has_known goal (it.round ++ past)
      it.state.sound id (quiet_start id (it.round ++ past) (idle_quiet (it.round ++ past) it.state.idle))) ∙ there));
}

record Behind (goal : Goal) (past : List Event) : Type 0 where
  round : List Event
  sound : is_sound goal (round ++ past) ≡ true
  quiet : is_undisturbed round past ≡ true
  rest : AtRest goal (round ++ past)
  idle : is_idle (round ++ past) ≡ true
  news : are_calls_pending (round ++ past) ≡ false
  unasked : has_no_request round ≡ true

one_behind : (goal : Goal) (past : List Event) → is_sound goal past ≡ true → AtRest goal past → is_idle past ≡ true
    → are_calls_pending past ≡ false → Behind goal past
one_behind goal past sound rest idle news = record {
  round = it.round;
  sound = it.state.kind.sound;
  quiet = undisturbed goal it.round past sound idle it.state;
  rest = it.rest;
  idle = it.state.kind.idle;
  news = it.state.kind.news;
  unasked = asks_nothing it.round it.state.kind.kind;
} where
  first : Kind goal (Nudge ∷ []) past × (all_want (Nudge ∷ past) ≡ true)
  first = begun goal past sound idle (rest_heard goal past rest idle) (at_stage goal past rest) news

  bare : Bare goal past
  bare = reap_all goal past (length (known_children past)) (Nudge ∷ []) first.0 first.1
      (same_most (length (known_children past)))

  it : Rested goal past
  it = to_rest goal past (above (stage_of (bare.round ++ past))) bare.round (first_free goal past bare)
      (same_most (above (stage_of (bare.round ++ past))))

-- this many rounds
record Chain (goal : Goal) (k : ℕ) (past : List Event) : Type 0 where
  rounds : List (List Event)
  many : length rounds ≡ k
  sound : is_sound goal (after_rounds rounds past) ≡ true
  quiet : AreRoundsWithoutRequests goal rounds past
  all : undisturbed_among rounds past ≡ k
  rest : AtRest goal (after_rounds rounds past)
  idle : is_idle (after_rounds rounds past) ≡ true
  news : are_calls_pending (after_rounds rounds past) ≡ false

chain : (goal : Goal) (past : List Event) → is_sound goal past ≡ true → AtRest goal past → is_idle past ≡ true
    → are_calls_pending past ≡ false → (k : ℕ) → Chain goal k past
chain goal past sound rest idle news zero = record {
  rounds = [];
  many = refl;
  sound = sound;
  quiet = (rest, idle);
  all = refl;
  rest = rest;
  idle = idle;
  news = news;
}
chain goal past sound rest idle news (suc k) = longer_by (chain goal past sound rest idle news k) where
  longer_by : Chain goal k past → Chain goal (suc k) past
  longer_by it = on (one_behind goal (after_rounds it.rounds past) it.sound it.rest it.idle it.news) where
    on : Behind goal (after_rounds it.rounds past) → Chain goal (suc k) past
    on one = record {
      rounds = one.round ∷ it.rounds;
      many = ap (λ n. suc n) it.many;
      sound = one.sound;
      quiet = (it.quiet, one.unasked, one.rest, one.idle);
      all = one_more (is_undisturbed one.round (after_rounds it.rounds past))
          (undisturbed_among it.rounds past) one.quiet it.all;
      rest = one.rest;
      idle = one.idle;
      news = one.news;
    } where
      one_more : (b : Bool) (n : ℕ) → b ≡ true → n ≡ k → cond b 1 0 + n ≡ suc k
      one_more true n own is = omega (arith, is)
      one_more false n own is = absurd (false≢true own)

pub rounds_exist : (goal : Goal) (later past : List Event) (k : ℕ) → is_sound goal (later ++ past) ≡ true
    → AtRest goal past → is_idle past ≡ true → are_calls_pending past ≡ false
    → (rounds : List (List Event)) × (length rounds ≡ k) × (is_sound goal (after_rounds rounds past) ≡ true)
    × AreRoundsWithoutRequests goal rounds past × (undisturbed_among rounds past ≡ k)
rounds_exist goal later past k sound rest idle news =
    read (chain goal past (sound_rest goal later past sound rest) rest idle news k) where
      read : Chain goal k past → (rounds : List (List Event)) × (length rounds ≡ k) × (is_sound goal
          (after_rounds rounds past) ≡ true) × AreRoundsWithoutRequests goal rounds past
          × (undisturbed_among rounds past ≡ k)
      read it = (it.rounds, it.many, it.sound, it.quiet, it.all)
