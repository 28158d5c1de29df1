-- From rests to a settled level: each undisturbed round reduces the number of rounds to come, and no other round
-- increases it.
use Rattle.core_waiting.proofs.Words.{◌≡◌, ◌≤◌, ◌<◌, ◌+◌, ◌-◌, refl, sym, ◌∙◌, ap, subst, ◌⊎◌, inl, inr, ℕ, zero, suc}
use Rattle.core_waiting.proofs.Words.{◌==◌, Bool, true, false, not, ◌&&◌, ◌||◌, cond, nat_le, List, [], ◌∷◌, ◌++◌}
use Rattle.core_waiting.proofs.Words.{filter, length, Option, Some, None, arith, list_any, list_all, false≢true}
use Rattle.core_waiting.proofs.Words.{false_from_ne_true, true_from_ne_false, or_left, or_right, and_parts, and_from}
use Rattle.core_waiting.proofs.Words.{le-leb, leb-true, not-true, eq-eqb, Entry, Act, Level, S, Mark, Stage, starts_by}
use Rattle.core_waiting.proofs.Words.{waited_by, wanted_by, same_level, starts_of, waited_of, same_id-self, both_ways}
use Rattle.core_waiting.proofs.Words.{falsely, not_from, all_less, all_fail, any_less, any_filter, filter_none}
use Rattle.core_waiting.proofs.Words.{or_either, Passing, passing, Goal, Event, Child, is_child_of, table_of, stage_of}
use Rattle.core_waiting.proofs.Words.{is_quiet, is_idle, grace_of, time_of, kept_children, starts_in}
use Rattle.core_waiting.proofs.Words.{has_no_running_child}
use Rattle.core_waiting.proofs.Words.{is_asked, is_called, is_excluded, spell_hits, is_missed, in_run, goal_of}
use Rattle.core_waiting.proofs.Words.{wants_reexec, wants_reread, level_wish, are_calls_pending, is_request_pending}
use Rattle.core_waiting.proofs.Words.{is_announced}
use Rattle.core_waiting.proofs.Words.{is_sound, AtRest, is_awaited, awaited_children, is_empty, is_calm, is_gone}
use Rattle.core_waiting.proofs.Words.{is_waited_start, is_level_announced, count_wanted_waits, after_rounds}
use Rattle.core_waiting.proofs.Words.{signals_to_come}
use Rattle.core_waiting.proofs.Words.{has_to_end, is_found_ended, is_nudge, has_no_request, is_undisturbed}
use Rattle.core_waiting.proofs.Words.{AreRoundsWithoutRequests}
use Rattle.core_waiting.proofs.Words.{undisturbed_among, makes_kills_due, has_kill_to_come, greatest, stages_ahead}
use Rattle.core_waiting.proofs.Words.{destination, is_ahead, waits_ahead, waits_to_come, rounds_to_come}
use Rattle.std.proofs.Common.{is_some}
use Rattle.init_words.specs.declared.actions.Act.TheVariants as act
use Rattle.init_words.specs.declared.stages.Stage.TheVariants as stage
use Rattle.trace_laws.proofs.Births.{sound_before}
use Rattle.core_waiting.proofs.Rest.{rest_accounted, rest_heard, idle_quiet, some_awaited, excluded_awaits}
use Rattle.core_waiting.proofs.Stops.{all_from}
use Rattle.core_waiting.proofs.Once.{wanted_before, same_table}
use Rattle.core_waiting.proofs.Progress.{filtered_none, awaited_from, progress}
use Rattle.core_waiting.proofs.Rounds.{fewer, unlimited, fewer_to_come, still_level, sound_rest}
use Rattle.core_waiting.proofs.Reached.{Round, lacks, passes_among, fewer_signals, no_more_signals}
use Rattle.core_waiting.proofs.Ended.{ended_gone}
use Rattle.core_waiting.proofs.Climbing.{Course, course, Entered, Lower, climbed_lower, none_awaited}

-- the greatest value is bounded if each value is
all_at_most : (f : Child → ℕ) (k : ℕ) (xs : List Child) → greatest f xs ≤ k → list_all (λ x. nat_le (f x) k) xs ≡ true
all_at_most f k [] h = refl
all_at_most f k (x ∷ xs) h = and_from (nat_le (f x) k) (list_all (λ y. nat_le (f y) k) xs)
    (le-leb (f x) k (omega arith)) (all_at_most f k xs (omega arith))

at_most_all : (f : Child → ℕ) (k : ℕ) (xs : List Child) → list_all (λ x. nat_le (f x) k) xs ≡ true → greatest f xs ≤ k
at_most_all f k [] h = grind arith
at_most_all f k (x ∷ xs) h = grind (arith, at_most_all f k xs)

abbrev most : List Event → ℕ
most past = greatest (signals_to_come past) (kept_children past)

abbrev one_unless : Bool → ℕ
one_unless b = cond b 0 1

abbrev one_where : Bool → ℕ
one_where b = cond b 1 0

abbrev some : List Event → ℕ
some past = one_unless (is_empty (awaited_children past))

-- the parts of an undisturbed round
abbrev found : List Event → List Event → Bool
found round past = list_all (λ child. is_found_ended child.id round) (filter (has_to_end past) (kept_children past))

abbrev reached : List Event → List Event → Bool
reached round past = list_all (λ child. not (is_missed child (round ++ past))) (kept_children (round ++ past))

record Parts (round past : List Event) : Type 0 where
  unasked : has_no_request round ≡ true
  nudged : list_any is_nudge round ≡ true
  over : makes_kills_due round past ≡ true
  found_ended : found round past ≡ true
  all_reached : reached round past ≡ true

parts : (round past : List Event) → is_undisturbed round past ≡ true → Parts round past
parts round past h =
    let p4 =
    and_parts (has_no_request round && list_any is_nudge round && makes_kills_due round past && found round past)
    (reached round past) h in
    let p3 =
    and_parts (has_no_request round && list_any is_nudge round && makes_kills_due round past) (found round past) p4.0 in
    let p2 = and_parts (has_no_request round && list_any is_nudge round) (makes_kills_due round past) p3.0 in
    let p1 = and_parts (has_no_request round) (list_any is_nudge round) p2.0 in
    record { unasked = p1.0; nudged = p1.1; over = p2.1; found_ended = p3.1; all_reached = p4.1 }

round_of : (goal : Goal) (round past : List Event) → is_sound goal (round ++ past) ≡ true → AtRest goal past
    → is_idle past ≡ true → is_calm round ≡ true → Parts round past → AtRest goal (round ++ past)
    → is_idle (round ++ past) ≡ true → Round goal round past
round_of goal round past sound rest idle calm it rest_later idle_later = record {
  sound = sound;
  sound_before = sound_rest goal round past sound rest;
  idle = idle;
  calm = calm;
  nudged = it.nudged;
  reached = it.all_reached;
  over = or_either (nat_le (time_of past + grace_of past) (time_of (round ++ past)))
      (list_all (is_gone round past) (filter (has_kill_to_come past) (kept_children past))) it.over
      (λ h. inl (leb-true (time_of past + grace_of past) (time_of (round ++ past)) h)) (λ h. inr h);
  rest = rest_later;
  idle_later = idle_later;
}

-- a waited entry that is to come after a calm stretch was to come before it
no_more : (between past : List Event) → is_calm between ≡ true
    → count_wanted_waits (between ++ past) ≤ count_wanted_waits past
no_more between past calm = grind (arith, same_table, fewer, parts, wanted_before, unlimited)

-- if no child lacks a signal, all children that init waited for are gone after the round
all_gone : (goal : Goal) (round past : List Event) → Round goal round past → found round past ≡ true
    → list_all (lacks 0 past) (kept_children past) ≡ true → list_all (is_gone round past) (awaited_children past) ≡ true
all_gone goal round past it ends all = all_from (is_gone round past) (awaited_children past)
    (false_from_ne_true (list_any (λ child. not (is_gone round past child)) (awaited_children past))
    (λ h. wrong (passing (λ child. is_awaited past child && not (is_gone round past child)) (kept_children past)
    (sym (any_filter (λ child. not (is_gone round past child)) (is_awaited past) (kept_children past)) ∙ h)))) where
      fails : Child → Bool
      fails child = is_awaited past child && not (is_gone round past child)

      wrong : Passing fails (kept_children past) → ⊥
      wrong there = both_ways (is_gone round past child) (ended_gone goal round past it all child
          (there.within (is_child_of child.id) (same_id-self child.id)) (ended (is_found_ended child.id round) refl))
          (not-true (is_gone round past child) own.1) where
            child : Child
            child = there.item

            own : (is_awaited past child ≡ true) × (not (is_gone round past child) ≡ true)
            own = and_parts (is_awaited past child) (not (is_gone round past child)) there.passes

            none : signals_to_come past child ≡ 0
            none = zero_of (signals_to_come past child) (leb-true (signals_to_come past child) 0
                (passes_among (lacks 0 past) fails (kept_children past) all there)) where
                  zero_of : (n : ℕ) → n ≤ 0 → n ≡ 0
                  zero_of n h = omega arith

            must : has_to_end past child ≡ true
            must = and_from (is_awaited past child) (signals_to_come past child == 0) own.0
                (eq-eqb (signals_to_come past child) 0 none)

            unfound : list_any (λ x. has_to_end past x && not (is_found_ended x.id round)) (kept_children past) ≡ false
            unfound = filtered_none (λ x. is_found_ended x.id round) (has_to_end past) (kept_children past) ends

            ended : (b : Bool) → is_found_ended child.id round ≡ b → b ≡ true
            ended true is = refl
            ended false is =
                both_ways (list_any (λ x. has_to_end past x && not (is_found_ended x.id round)) (kept_children
                past))
                (there.within (λ x. has_to_end past x && not (is_found_ended x.id round)) (and_from (has_to_end past
                child) (not (is_found_ended child.id round)) must
                (not_from (is_found_ended child.id round) is))) unfound

-- at a rest where no level is announced settled, init waits for a child
one_awaited : (goal : Goal) (past : List Event) → is_sound goal past ≡ true → AtRest goal past → is_idle past ≡ true
    → is_level_announced past ≡ false → some past ≡ 1
one_awaited goal past sound rest idle untold = at (is_idle past) (is_level_announced past)
    (is_empty (awaited_children past)) idle untold (rest_accounted goal [] past sound rest) where
      at : (a b c : Bool) → a ≡ true → b ≡ false → (not a || b || not c) ≡ true → one_unless c ≡ 1
      at true false false own un h = refl
      at true false true own un h = absurd (false≢true h)
      at true true c own un h = absurd (false≢true (sym un))
      at false b c own un h = absurd (false≢true own)

some_few : (past : List Event) → some past ≤ 1
some_few past = grind arith

-- a child that is not excluded lacks no signal
none_lack : (past : List Event) → list_any (is_excluded past) (kept_children past) ≡ false
    → list_all (lacks 0 past) (kept_children past) ≡ true
none_lack past none = all_less (λ x. not (is_excluded past x)) (lacks 0 past)
    (λ x free. ap (λ b. nat_le (cond b (2 - length (spell_hits x past)) 0) 0) (not-true (is_excluded past x) free))
    (kept_children past) (all_fail (is_excluded past) (kept_children past) none)

-- the numbers at a rest
abbrev aim_ahead : Goal → List Event → Option Stage → ℕ
aim_ahead goal past o = waits_ahead (are_calls_pending past) (table_of past) (stages_ahead (goal_of goal past).level o)

more_ahead : (b c : Bool) → (b ≡ true → c ≡ true) → (table : List Entry) (stages : List Stage)
    → waits_ahead b table stages ≤ waits_ahead c table stages
more_ahead b c less table [] = omega arith
more_ahead b c less table (now ∷ stages) =
    let here : length (filter (is_ahead b now) table) ≤ length (filter (is_ahead c now) table) = fewer (is_ahead b now)
    (is_ahead c now) (λ e h. let outer = and_parts (waited_of e) (starts_of e now && wanted_by e.act true true b) h in
    let inner = and_parts (starts_of e now) (wanted_by e.act true true b) outer.1 in
    and_from (waited_of e) (starts_of e now && wanted_by e.act true true c) outer.0
    (and_from (starts_of e now) (wanted_by e.act true true c) inner.0 (more_wanted e.act inner.1))) table in
    let rest : waits_ahead b table stages ≤ waits_ahead c table stages = more_ahead b c less table stages in
    omega arith where
      more_wanted : (a : Act) → wanted_by a true true b ≡ true → wanted_by a true true c ≡ true
      more_wanted act.Powerwait h = less h
      more_wanted act.Powerfail h = less h
      more_wanted act.Powerfailnow h = less h
      more_wanted act.Powerokwait h = less h
      more_wanted act.Ondemand h = and_from c true (less (and_parts b true h).0) refl
      more_wanted _ h = h

same_ahead : (goal : Goal) (round past : List Event) → table_of (round ++ past) ≡ table_of past
    → goal_of goal (round ++ past) ≡ goal_of goal past
    → (are_calls_pending (round ++ past) ≡ true → are_calls_pending past ≡ true)
    → waits_ahead (are_calls_pending (round ++ past)) (table_of (round ++ past)) (stages_ahead
    (goal_of goal (round ++ past)).level (stage_of (round ++ past))) ≤ aim_ahead goal past (stage_of (round ++ past))
same_ahead goal round past table aim news = grind (arith, more_ahead)

-- before the first stage there is no rest
pub staged : (goal : Goal) (past : List Event) → AtRest goal past → is_some (stage_of past) ≡ true
staged goal past rest = grind arith

-- at a rest with no order open, no request for another level is pending
pub unwished : (goal : Goal) (past : List Event) → AtRest goal past → is_idle past ≡ true
    → is_some (level_wish past) ≡ false
unwished goal past rest idle =
    falsely (is_some (level_wish past)) (is_request_pending past) (λ wish. or_left (wants_reexec
    past || wants_reread past || is_some (level_wish past)) (in_run (stage_of past) && are_calls_pending past) (or_right
    (wants_reexec past || wants_reread past) (is_some (level_wish past)) wish)) (rest_heard goal past rest idle)

course_of : (goal : Goal) (round past : List Event) → is_sound goal (round ++ past) ≡ true → AtRest goal past
    → is_idle past ≡ true → has_no_request round ≡ true → Course goal round past
course_of goal round past sound rest idle unasked =
    course goal round past sound unasked (staged goal past rest) (unwished goal past rest idle) heard where
      heard : in_run (stage_of past) ≡ true → are_calls_pending past ≡ false
      heard running = falsely (are_calls_pending past) (is_request_pending past) (λ news. or_right
          (wants_reexec past || wants_reread past || is_some (level_wish past))
          (in_run (stage_of past) && are_calls_pending past)
          (and_from (in_run (stage_of past)) (are_calls_pending past) running news)) (rest_heard goal past rest idle)

-- an announced level stays announced
still_announced : (goal : Goal) (round past : List Event) → Course goal round past → is_level_announced past ≡ true
    → is_level_announced (round ++ past) ≡ true
still_announced goal round past it told = grind (arith, Entered, still_level, both_ways)

falls_at : (goal : Goal) (round past : List Event) → is_sound goal (round ++ past) ≡ true → AtRest goal past
    → is_idle past ≡ true → is_undisturbed round past ≡ true → AtRest goal (round ++ past) → is_idle (round ++ past)
    ≡ true → is_level_announced (round ++ past) ≡ false → rounds_to_come goal (round ++ past) < rounds_to_come goal past
falls_at goal round past sound rest idle let_be rest_later idle_later untold =
    add (waits_ahead (are_calls_pending (round ++ past)) (table_of (round ++ past)) (stages_ahead
    (goal_of goal (round ++ past)).level (stage_of (round ++ past)))) (aim_ahead goal past (stage_of (round ++ past)))
    (count_wanted_waits (round ++ past)) (some (round ++ past)) (most (round ++ past))
    (aim_ahead goal past (stage_of past)
    + count_wanted_waits past + some past + most past) (same_ahead goal round past way.table way.aim way.news)
    (by way.path) where
      add : (w d a b c z : ℕ) → w ≤ d → d + a + b + c < z → w + a + b + c < z
      add w d a b c z h i = omega arith

      given : Parts round past
      given = parts round past let_be

      way : Course goal round past
      way = course_of goal round past sound rest idle given.unasked

      waits : some past ≡ 1
      waits = one_awaited goal past (sound_rest goal round past sound rest) rest idle (falsely (is_level_announced past)
          (is_level_announced (round ++ past)) (still_announced goal round past way) untold)

      calm_falls : is_calm round ≡ true → stage_of (round ++ past) ≡ stage_of past
          → aim_ahead goal past (stage_of (round ++ past)) + count_wanted_waits (round ++ past) + some (round ++ past)
          + most
          (round ++ past) < aim_ahead goal past (stage_of past) + count_wanted_waits past + some past + most past
      calm_falls calm stays = at (most past) refl where
        it : Round goal round past
        it = round_of goal round past sound rest idle calm given rest_later idle_later

        next : (k : ℕ) → most past ≤ suc k → most (round ++ past) ≤ k
        next k few = at_most_all (signals_to_come (round ++ past)) k (kept_children (round ++ past))
            (fewer_signals goal round past it k (all_at_most (signals_to_come past) (suc k) (kept_children past) few))

        same : aim_ahead goal past (stage_of (round ++ past)) ≡ aim_ahead goal past (stage_of past)
        same = ap (aim_ahead goal past) stays

        at : (n : ℕ) → most past ≡ n
            → aim_ahead goal past (stage_of (round ++ past)) + count_wanted_waits (round ++ past) + some (round ++ past)
            + most
            (round ++ past) < aim_ahead goal past (stage_of past) + count_wanted_waits past + some past + most past
        at zero is =
            let fewer_now : count_wanted_waits (round ++ past) < count_wanted_waits past =
            fewer_to_come goal round past sound calm
            (progress goal round past sound calm (idle_quiet past idle) rest_later idle_later
            (all_gone goal round past it
            given.found_ended (all_at_most (signals_to_come past) 0 (kept_children past) (omega arith))) untold) in
            let none : most (round ++ past) ≤ 0 = next 0 (omega arith) in
            add (aim_ahead goal past (stage_of (round ++ past))) (count_wanted_waits (round ++ past))
            (some (round ++ past))
            (most (round ++ past)) (aim_ahead goal past (stage_of past)) (count_wanted_waits past) (some past)
            (most past) same fewer_now (some_few (round ++ past)) none waits where
              add : (d a b c w x y z : ℕ) → d ≡ w → a < x → b ≤ 1 → c ≤ 0 → y ≡ 1 → d + a + b + c < w + x + y + z
              add d a b c w x y z g h i j k = omega arith
        at (suc k) is =
            let less : most (round ++ past) ≤ k = next k (omega arith) in
            add (aim_ahead goal past (stage_of (round ++ past))) (count_wanted_waits (round ++ past))
            (some (round ++ past))
            (most (round ++ past)) (aim_ahead goal past (stage_of past)) (count_wanted_waits past) (some past)
            (most past) k same
            (no_more round past calm) (some_few (round ++ past)) less waits is where
              add : (d a b c w x y z k : ℕ) → d ≡ w → a ≤ x → b ≤ 1 → c ≤ k → y ≡ 1 → z ≡ suc k
                  → d + a + b + c < w + x + y + z
              add d a b c w x y z k g h i j l m = omega arith

      climb_falls : Entered goal past (round ++ past)
          → aim_ahead goal past (stage_of (round ++ past)) + count_wanted_waits (round ++ past) + some (round ++ past)
          + most
          (round ++ past) < aim_ahead goal past (stage_of past) + count_wanted_waits past + some past + most past
      climb_falls path =
          let lower : Lower goal past (round ++ past) =
          climbed_lower goal past (round ++ past) path sound rest_later idle_later untold in
          let none : most (round ++ past) ≤ 0 = at_most_all (signals_to_come (round ++ past)) 0
          (kept_children (round ++ past)) (none_lack (round ++ past) lower.1) in
          add (aim_ahead goal past (stage_of (round ++ past))) (count_wanted_waits (round ++ past))
          (some (round ++ past))
          (most (round ++ past)) (aim_ahead goal past (stage_of past)) (count_wanted_waits past) (some past)
          (most past) lower.0
          (some_few (round ++ past)) none waits where
            add : (d a b c w x y z : ℕ) → d + a < w → b ≤ 1 → c ≤ 0 → y ≡ 1 → d + a + b + c < w + x + y + z
            add d a b c w x y z h i j k = omega arith

      by : ((is_calm round ≡ true) × (stage_of (round ++ past) ≡ stage_of past)) ⊎ Entered goal past (round ++ past)
          → aim_ahead goal past (stage_of (round ++ past)) + count_wanted_waits (round ++ past) + some (round ++ past)
          + most
          (round ++ past) < aim_ahead goal past (stage_of past) + count_wanted_waits past + some past + most past
      by (inl path) = calm_falls path.0 path.1
      by (inr path) = climb_falls path

pub falls : (goal : Goal) (later round past : List Event) → is_sound goal (later ++ (round ++ past)) ≡ true
    → AtRest goal past → is_idle past ≡ true → is_undisturbed round past ≡ true → AtRest goal (round ++ past)
    → is_idle (round ++ past) ≡ true → is_level_announced (round ++ past) ≡ false
    → rounds_to_come goal (round ++ past) < rounds_to_come goal past
falls goal later round past sound rest idle let_be rest_later idle_later untold = falls_at goal round past
    (sound_rest goal later (round ++ past) sound rest_later) rest idle let_be rest_later idle_later untold

-- over a calm stretch there are no more entries to come, counting one more if init waits for a child
no_more_awaited : (goal : Goal) (between past : List Event) → is_sound goal (between ++ past) ≡ true → is_calm between
    ≡ true → is_quiet past ≡ true
    → count_wanted_waits (between ++ past) + some (between ++ past) ≤ count_wanted_waits past + some past
no_more_awaited goal between past sound calm quiet =
    at (list_any (is_awaited (between ++ past)) (kept_children (between ++ past))) refl where
      now : List Event
      now = between ++ past

      begun : list_any (is_waited_start past) between ≡ true
          → count_wanted_waits now + some now ≤ count_wanted_waits past + some past
      begun started =
          let less : count_wanted_waits now < count_wanted_waits past =
          fewer_to_come goal between past sound calm started in
          let one : some now ≤ 1 = some_few now in
          omega (arith, less, one)

      before : list_any (λ y. is_awaited past y && not (is_gone between past y)) (kept_children past) ≡ true
          → count_wanted_waits now + some now ≤ count_wanted_waits past + some past
      before left =
          let still : count_wanted_waits now ≤ count_wanted_waits past = no_more between past calm in
          let one : some now ≤ 1 = some_few now in
          let own : some past ≡ 1 = ap one_unless
          (some_awaited past (any_less (λ y. is_awaited past y && not (is_gone between past y)) (is_awaited past)
          (λ y both. (and_parts (is_awaited past y) (not (is_gone between past y)) both).0)
          (kept_children past) left)) in
          omega (arith, still, one, own)

      at : (b : Bool) → list_any (is_awaited now) (kept_children now) ≡ b
          → count_wanted_waits now + some now ≤ count_wanted_waits past + some past
      at true there = elim (awaited_from goal between past sound calm quiet there)
          [ inl started ↦ begun started | inr left ↦ before left ]
      at false none =
          let still : count_wanted_waits now ≤ count_wanted_waits past = no_more between past calm in
          let zero : some now ≡ 0 =
          ap (λ xs. one_unless (is_empty xs)) (filter_none (is_awaited now) (kept_children now) none) in
          omega (arith, still, zero)

-- and no child lacks more signals
no_more_most : (goal : Goal) (between past : List Event) → is_sound goal (between ++ past) ≡ true
    → is_calm between ≡ true → is_quiet past ≡ true → most (between ++ past) ≤ most past
no_more_most goal between past sound calm quiet = at_most_all (signals_to_come (between ++ past)) (most past)
    (kept_children (between ++ past)) (no_more_signals goal between past sound calm quiet (most past)
    (all_at_most (signals_to_come past) (most past) (kept_children past) (same (most past)))) where
      same : (n : ℕ) → n ≤ n
      same n = omega arith

-- the end of a sound trace after a rest is sound
sound_behind : (goal : Goal) (later round past : List Event) → is_sound goal (later ++ (round ++ past)) ≡ true
    → AtRest goal past → is_sound goal (round ++ past) ≡ true
sound_behind goal later [] past sound rest = sound_rest goal later past sound rest
sound_behind goal later (happening ∷ round) past sound rest = sound_before goal later happening (round ++ past) sound

-- so without requests the number of rounds to come never rises, at a rest or elsewhere
never_rises : (goal : Goal) (round past : List Event) → is_sound goal (round ++ past) ≡ true → AtRest goal past
    → is_idle past ≡ true → has_no_request round ≡ true → rounds_to_come goal (round ++ past) ≤ rounds_to_come goal past
never_rises goal round past sound rest idle unasked = add (waits_ahead (are_calls_pending (round ++ past))
    (table_of (round ++ past)) (stages_ahead (goal_of goal (round ++ past)).level (stage_of (round ++ past))))
    (aim_ahead goal past (stage_of (round ++ past))) (count_wanted_waits (round ++ past)) (some (round ++ past))
    (most (round ++ past)) (aim_ahead goal past (stage_of past) + count_wanted_waits past + some past + most past)
    (same_ahead goal round past way.table way.aim way.news) (by way.path) where
      add : (w d a b c z : ℕ) → w ≤ d → d + a + b + c ≤ z → w + a + b + c ≤ z
      add w d a b c z h i = omega arith

      way : Course goal round past
      way = course_of goal round past sound rest idle unasked

      calm_stays : is_calm round ≡ true → stage_of (round ++ past) ≡ stage_of past
          → aim_ahead goal past (stage_of (round ++ past)) + count_wanted_waits (round ++ past) + some (round ++ past)
          + most
          (round ++ past) ≤ aim_ahead goal past (stage_of past) + count_wanted_waits past + some past + most past
      calm_stays calm stays = sum (aim_ahead goal past (stage_of (round ++ past))) (count_wanted_waits (round ++ past))
          (some (round ++ past)) (most (round ++ past)) (aim_ahead goal past (stage_of past)) (count_wanted_waits past)
          (some past)
          (most past) (ap (aim_ahead goal past) stays)
          (no_more_awaited goal round past sound calm (idle_quiet past idle))
          (no_more_most goal round past sound calm (idle_quiet past idle)) where
            sum : (d a b c w x y z : ℕ) → d ≡ w → a + b ≤ x + y → c ≤ z → d + a + b + c ≤ w + x + y + z
            sum d a b c w x y z h i j = omega arith

      climb_stays : (it : Entered goal past (round ++ past))
          → aim_ahead goal past (stage_of (round ++ past)) + count_wanted_waits (round ++ past) + some (round ++ past)
          + most
          (round ++ past) ≤ aim_ahead goal past (stage_of past) + count_wanted_waits past + some past + most past
      climb_stays it = sum (aim_ahead goal past (stage_of (round ++ past))) (aim_ahead goal past (Some it.entered))
          (length (filter (is_ahead (are_calls_pending past) it.entered) (table_of past))) (count_wanted_waits it.start)
          (some it.start)
          (count_wanted_waits (round ++ past)) (some (round ++ past)) (most (round ++ past)) (most it.start)
          (aim_ahead goal past (stage_of past)) (count_wanted_waits past) (some past) (most past)
          (ap (aim_ahead goal past) it.here) it.ahead it.few (ap (λ xs. one_unless (is_empty xs))
          (filter_none (is_awaited it.start) (kept_children it.start) none)) waits lacking none_there where
            none : list_any (is_awaited it.start) (kept_children it.start) ≡ false
            none = none_awaited goal past (round ++ past) it

            sound_there : is_sound goal (it.after ++ it.start) ≡ true
            sound_there = subst (λ x. is_sound goal x ≡ true) it.is sound

            waits : count_wanted_waits (round ++ past) + some (round ++ past)
                ≤ count_wanted_waits it.start + some it.start
            waits = subst (λ x. count_wanted_waits x + some x ≤ count_wanted_waits it.start + some it.start) (sym it.is)
                (no_more_awaited goal it.after it.start sound_there it.calm it.quiet)

            lacking : most (round ++ past) ≤ most it.start
            lacking = subst (λ x. most x ≤ most it.start) (sym it.is)
                (no_more_most goal it.after it.start sound_there it.calm it.quiet)

            none_there : most it.start ≤ 0
            none_there = at_most_all (signals_to_come it.start) 0 (kept_children it.start)
                (none_lack it.start (falsely (list_any (is_excluded it.start) (kept_children it.start))
                (list_any (is_awaited it.start) (kept_children it.start))
                (any_less (is_excluded it.start) (is_awaited it.start)
                (excluded_awaits it.start) (kept_children it.start)) none))

            sum : (d w n t s a b c m v x y z : ℕ) → d ≡ w → n + w ≤ v → t ≤ n → s ≡ 0 → a + b ≤ t + s → c ≤ m → m ≤ 0
                → d + a + b + c ≤ v + x + y + z
            sum d w n t s a b c m v x y z is less few none waits more last = omega arith

      by : ((is_calm round ≡ true) × (stage_of (round ++ past) ≡ stage_of past)) ⊎ Entered goal past (round ++ past)
          → aim_ahead goal past (stage_of (round ++ past)) + count_wanted_waits (round ++ past) + some (round ++ past)
          + most
          (round ++ past) ≤ aim_ahead goal past (stage_of past) + count_wanted_waits past + some past + most past
      by (inl path) = calm_stays path.0 path.1
      by (inr path) = climb_stays path

pub stays : (goal : Goal) (later round past : List Event) → is_sound goal (later ++ (round ++ past)) ≡ true
    → AtRest goal past → is_idle past ≡ true → has_no_request round ≡ true
    → rounds_to_come goal (round ++ past) ≤ rounds_to_come goal past
stays goal later round past sound rest idle unasked =
    never_rises goal round past (sound_behind goal later round past sound rest) rest idle unasked

-- over several rounds
pub last_rest : (goal : Goal) (rounds : List (List Event)) (past : List Event)
    → AreRoundsWithoutRequests goal rounds past
    → AtRest goal (after_rounds rounds past) × (is_idle (after_rounds rounds past) ≡ true)
last_rest goal [] past are = are
last_rest goal (round ∷ earlier) past are = (are.2, are.3)

count : (goal : Goal) (rounds : List (List Event)) (past : List Event) → is_sound goal (after_rounds rounds past) ≡ true
    → AreRoundsWithoutRequests goal rounds past → is_level_announced (after_rounds rounds past) ≡ false
    → undisturbed_among rounds past + rounds_to_come goal (after_rounds rounds past) ≤ rounds_to_come goal past
count goal [] past sound are untold = omega arith
count goal (round ∷ earlier) past sound are untold =
    let last = last_rest goal earlier past are.0 in
    let sound_before : is_sound goal (after_rounds earlier past) ≡ true =
    sound_rest goal round (after_rounds earlier past) sound last.0 in
    let untold_before : is_level_announced (after_rounds earlier past) ≡ false = falsely (is_level_announced
    (after_rounds earlier past)) (is_level_announced (round ++ after_rounds earlier past)) (still_announced goal round
    (after_rounds earlier past) (course_of goal round (after_rounds earlier past) sound last.0 last.1 are.1)) untold in
    add (undisturbed_among earlier past) (one_where (is_undisturbed round (after_rounds earlier past)))
    (rounds_to_come goal past) (rounds_to_come goal (after_rounds earlier past)) (rounds_to_come goal
    (round ++ after_rounds earlier past)) (count goal earlier past sound_before are.0 untold_before)
    (at (is_undisturbed round (after_rounds earlier past)) refl last.0 last.1) where
      add : (n m w b a : ℕ) → n + b ≤ w → m + a ≤ b → m + n + a ≤ w
      add n m w b a h less = omega arith

      one_less : (a b : ℕ) → a < b → 1 + a ≤ b
      one_less a b less = omega arith

      no_less : (a b : ℕ) → a ≤ b → 0 + a ≤ b
      no_less a b less = omega arith

      at : (b : Bool) → is_undisturbed round (after_rounds earlier past) ≡ b → AtRest goal (after_rounds earlier past)
          → is_idle (after_rounds earlier past) ≡ true → one_where b + rounds_to_come goal
          (round ++ after_rounds earlier past) ≤ rounds_to_come goal (after_rounds earlier past)
      at true it rest idle = one_less (rounds_to_come goal (round ++ after_rounds earlier past))
          (rounds_to_come goal (after_rounds earlier past))
          (falls_at goal round (after_rounds earlier past) sound rest idle it are.2 are.3 untold)
      at false it rest idle = no_less (rounds_to_come goal (round ++ after_rounds earlier past)) (rounds_to_come goal
          (after_rounds earlier past)) (never_rises goal round (after_rounds earlier past) sound rest idle are.1)

left_over : (goal : Goal) (past : List Event) → is_sound goal past ≡ true → AtRest goal past → is_idle past ≡ true
    → is_level_announced past ≡ false → 1 ≤ rounds_to_come goal past
left_over goal past sound rest idle untold = grind (arith, one_awaited)

pub arrives : (goal : Goal) (later : List Event) (rounds : List (List Event)) (past : List Event)
    → is_sound goal (later ++ after_rounds rounds past) ≡ true → AreRoundsWithoutRequests goal rounds past
    → rounds_to_come goal past ≤ undisturbed_among rounds past → is_level_announced (after_rounds rounds past) ≡ true
arrives goal later rounds past sound are enough =
    true_from_ne_false (is_level_announced (after_rounds rounds past)) wrong where
      last : AtRest goal (after_rounds rounds past) × (is_idle (after_rounds rounds past) ≡ true)
      last = last_rest goal rounds past are

      sound_last : is_sound goal (after_rounds rounds past) ≡ true
      sound_last = sound_rest goal later (after_rounds rounds past) sound last.0

      wrong : is_level_announced (after_rounds rounds past) ≡ false → ⊥
      wrong untold = add (undisturbed_among rounds past) (rounds_to_come goal (after_rounds rounds past))
          (rounds_to_come goal past) (count goal rounds past sound_last are untold)
          (left_over goal (after_rounds rounds past) sound_last last.0 last.1 untold) enough where
            add : (n a w : ℕ) → n + a ≤ w → 1 ≤ a → w ≤ n → ⊥
            add n a w h i j = omega arith

-- the level at which init arrives
bound_for : (goal : Goal) (rounds : List (List Event)) (past : List Event)
    → is_sound goal (after_rounds rounds past) ≡ true → AreRoundsWithoutRequests goal rounds past
    → (goal_of goal (after_rounds rounds past) ≡ goal_of goal past) × (destination (goal_of goal past).level
    (stage_of (after_rounds rounds past)) ≡ destination (goal_of goal past).level (stage_of past))
bound_for goal [] past sound are = (refl, refl)
bound_for goal (round ∷ earlier) past sound are =
    let last = last_rest goal earlier past are.0 in
    let before = bound_for goal earlier past (sound_rest goal round (after_rounds earlier past) sound last.0) are.0 in
    let way : Course goal round (after_rounds earlier past) =
    course_of goal round (after_rounds earlier past) sound last.0 last.1 are.1 in (
      way.aim ∙ before.0,
      ap (λ (aim : Goal). destination aim.level (stage_of (round ++ after_rounds earlier past))) (sym before.0)
          ∙ way.bound_for ∙ ap (λ (aim : Goal). destination aim.level (stage_of (after_rounds earlier past))) before.0
          ∙ before.1,
    )

pub arrives_there : (goal : Goal) (later : List Event) (rounds : List (List Event)) (past : List Event)
    → is_sound goal (later ++ after_rounds rounds past) ≡ true → AreRoundsWithoutRequests goal rounds past
    → is_level_announced (after_rounds rounds past) ≡ true
    → stage_of (after_rounds rounds past) ≡ Some (stage.Run (destination (goal_of goal past).level (stage_of past)))
arrives_there goal later rounds past sound are told = there (stage_of (after_rounds rounds past)) refl
    (and_parts (in_run (stage_of (after_rounds rounds past))) (is_announced (after_rounds rounds past)) told).0 where
      way : (goal_of goal (after_rounds rounds past) ≡ goal_of goal past) × (destination (goal_of goal past).level
          (stage_of (after_rounds rounds past)) ≡ destination (goal_of goal past).level (stage_of past))
      way = bound_for goal rounds past
          (sound_rest goal later (after_rounds rounds past) sound (last_rest goal rounds past are).0) are

      there : (o : Option Stage) → stage_of (after_rounds rounds past) ≡ o → in_run o ≡ true
          → stage_of (after_rounds rounds past)
          ≡ Some (stage.Run (destination (goal_of goal past).level (stage_of past)))
      there None is running = absurd (false≢true running)
      there (Some stage.Sysinit) is running = absurd (false≢true running)
      there (Some stage.Boot) is running = absurd (false≢true running)
      there (Some (stage.Run now)) is running =
          is
          ∙ ap (λ (level : Level). Some (stage.Run level)) (sym (ap (destination (goal_of goal past).level) is) ∙ way.1)

-- bounds on the number of rounds to come
lacks_two : (past : List Event) (child : Child) → signals_to_come past child ≤ 2
lacks_two past child = grind arith

each_two : (past : List Event) (xs : List Child) → list_all (λ x. nat_le (signals_to_come past x) 2) xs ≡ true
each_two past [] = refl
each_two past (x ∷ xs) = and_from (nat_le (signals_to_come past x) 2) (list_all (λ y. nat_le (signals_to_come past y) 2)
    xs) (le-leb (signals_to_come past x) 2 (lacks_two past x)) (each_two past xs)

pub few : (goal : Goal) (past : List Event) → rounds_to_come goal past ≤ waits_to_come goal past + 3
few goal past = add (waits_to_come goal past) (some past) (most past) (some_few past)
    (at_most_all (signals_to_come past) 2 (kept_children past) (each_two past (kept_children past))) where
      add : (a b c : ℕ) → b ≤ 1 → c ≤ 2 → a + b + c ≤ a + 3
      add a b c h i = omega arith

-- each entry is waited for in one stage only
abbrev num : Bool → ℕ
num b = cond b 1 0

split_two : (p q w : Entry → Bool) → ((e : Entry) → num (p e) + num (q e) ≤ num (w e)) → (es : List Entry)
    → length (filter p es) + length (filter q es) ≤ length (filter w es)
split_two p q w each [] = grind arith
split_two p q w each (e ∷ es) = grind (arith, split_two p q w each es)

split_three : (p q r w : Entry → Bool) → ((e : Entry) → num (p e) + num (q e) + num (r e) ≤ num (w e))
    → (es : List Entry) → length (filter p es) + length (filter q es) + length (filter r es) ≤ length (filter w es)
split_three p q r w each [] = grind arith
split_three p q r w each (e ∷ es) = grind (arith, split_three p q r w each es)

-- the same for one entry, by its action
at_boot : (a : Act) (marks : List Mark) (level : Level) (news x : Bool)
    → num (waited_by a && (starts_by a marks (stage.Run level) && wanted_by a true true news)) + num
    (waited_by a && (starts_by a marks stage.Boot && x)) ≤ num (waited_by a)
at_boot a marks level news x = grind arith

at_s : (a : Act) (marks : List Mark) (news x : Bool) → num (waited_by a && (starts_by a marks (stage.Run S)
    && wanted_by a true true news)) + num (waited_by a && (starts_by a marks stage.Sysinit && x)) ≤ num (waited_by a)
at_s a marks news x = grind arith

at_sysinit : (a : Act) (marks : List Mark) (level : Level) (news x : Bool) → num (waited_by a && (starts_by a marks
    stage.Boot && wanted_by a true true news)) + num (waited_by a && (starts_by a marks (stage.Run level)
    && wanted_by a true true news)) + num (waited_by a && (starts_by a marks stage.Sysinit && x)) ≤ num (waited_by a)
at_sysinit a marks level news x = grind arith

abbrev waited_in : List Event → ℕ
waited_in past = length (filter waited_of (table_of past))

waits_few : (goal : Goal) (past : List Event) → waits_to_come goal past ≤ waited_in past
waits_few goal past = at (stage_of past) refl where
  level : Level
  level = (goal_of goal past).level

  wants : Entry → Bool
  wants e = wanted_by e.act (has_no_running_child e.id past) (not (is_asked e.id past)) (is_called e past)

  -- the entries to come in the stage in force
  now_in : Option Stage → Entry → Bool
  now_in o e = waited_of e && (starts_in e o && wants e)

  few_now : (o : Option Stage) → length (filter (now_in o) (table_of past)) ≤ waited_in past
  few_now o =
      fewer (now_in o) waited_of (λ e h. (and_parts (waited_of e) (starts_in e o && wants e) h).0) (table_of past)

  sum : (o : Option Stage) → waits_ahead (are_calls_pending past) (table_of past) (stages_ahead level o) + length
      (filter (now_in o) (table_of past)) ≤ waited_in past
  sum None = let one : length (filter (now_in None) (table_of past)) ≤ waited_in past = few_now None in omega arith
  sum (Some (stage.Run l)) = let one : length (filter (now_in (Some (stage.Run l))) (table_of past)) ≤ waited_in past =
      few_now (Some (stage.Run l)) in omega arith
  sum (Some stage.Boot) =
      let two : length (filter (is_ahead (are_calls_pending past) (stage.Run level)) (table_of past)) + length
      (filter (now_in (Some stage.Boot)) (table_of past)) ≤ waited_in past =
      split_two (is_ahead (are_calls_pending past) (stage.Run level)) (now_in (Some stage.Boot)) waited_of
      (λ e. at_boot e.act e.levels.items level (are_calls_pending past) (wants e)) (table_of past) in
      omega arith
  sum (Some stage.Sysinit) = from (same_level level S) where
    from : (b : Bool) → waits_ahead (are_calls_pending past) (table_of past) (cond b (stage.Run S ∷ []) (stage.Boot
        ∷ stage.Run level ∷ [])) + length (filter (now_in (Some stage.Sysinit)) (table_of past)) ≤ waited_in past
    from true =
        let two : length (filter (is_ahead (are_calls_pending past) (stage.Run S)) (table_of past)) + length
        (filter (now_in (Some stage.Sysinit)) (table_of past)) ≤ waited_in past =
        split_two (is_ahead (are_calls_pending past) (stage.Run S)) (now_in (Some stage.Sysinit)) waited_of
        (λ e. at_s e.act e.levels.items (are_calls_pending past) (wants e)) (table_of past) in
        omega arith
    from false =
        let three : length (filter (is_ahead (are_calls_pending past) stage.Boot) (table_of past)) + length
        (filter (is_ahead (are_calls_pending past) (stage.Run level)) (table_of past)) + length
        (filter (now_in (Some stage.Sysinit)) (table_of past)) ≤ waited_in past = split_three (is_ahead
        (are_calls_pending past) stage.Boot) (is_ahead (are_calls_pending past) (stage.Run level))
        (now_in (Some stage.Sysinit))
        waited_of (λ e. at_sysinit e.act e.levels.items level (are_calls_pending past) (wants e)) (table_of past) in
        omega arith

  at : (o : Option Stage) → stage_of past ≡ o → waits_to_come goal past ≤ waited_in past
  at o is = subst (λ x. waits_ahead (are_calls_pending past) (table_of past) (stages_ahead level x) + length
      (filter (now_in x) (table_of past)) ≤ waited_in past) (sym is) (sum o)

pub in_all : (goal : Goal) (past : List Event) → rounds_to_come goal past ≤ waited_in past + 3
in_all goal past = let n = few goal past in let m = waits_few goal past in omega (arith, n, m)
