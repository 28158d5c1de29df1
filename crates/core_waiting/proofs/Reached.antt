-- Over an undisturbed round, a child that lacks a signal is sent one.
use Rattle.core_waiting.proofs.Words.{◌≡◌, ◌≤◌, ◌+◌, ◌-◌, refl, sym, ◌∙◌, ap, subst, ◌⊎◌, inl, inr, ℕ, suc, ◌==◌, Bool}
use Rattle.core_waiting.proofs.Words.{true, false, not, ◌&&◌, cond, nat_le, max, min, List, [], ◌∷◌, ◌++◌, filter, map}
use Rattle.core_waiting.proofs.Words.{length, Option, length-append, arith, list_any, list_all, false≢true}
use Rattle.core_waiting.proofs.Words.{false_from_ne_true, and_parts, and_from, or_parts, or_from, le-leb, leb-true}
use Rattle.core_waiting.proofs.Words.{not-true, CLOCK_LIMIT, OrderKind, Start, Term, same_id, same_id-is, same_id-self}
use Rattle.core_waiting.proofs.Words.{both_ways, not_from, Passing, passing, Birth, Told, Clock, Goal, Event, Child}
use Rattle.core_waiting.proofs.Words.{is_child_of, has_child, open_of, is_quiet, is_idle, grace_of, time_of}
use Rattle.core_waiting.proofs.Words.{kept_children}
use Rattle.core_waiting.proofs.Words.{is_order, is_excluded, Signal, told_at, untold_hits, is_birth_of, in_spell}
use Rattle.core_waiting.proofs.Words.{tells_hits, spell_hits, is_missed, is_grace_over, is_sound, is_order-is}
use Rattle.core_waiting.proofs.Words.{idle_none}
use Rattle.core_waiting.proofs.Words.{undone_is_open, start_undone, quiet_start, AtRest, are_in_force, is_stopping}
use Rattle.core_waiting.proofs.Words.{is_calm, is_gone, is_start_of, signals_to_come, has_kill_to_come, is_nudge}
use Rattle.std.proofs.Common.{append_assoc}
use Rattle.core_waiting.proofs.Stops.{all_from, stops_at}
use Rattle.core_waiting.proofs.Progress.{Next, next_of, excluded_still, filtered_none, no_start, kept_back, quit_at}

joined : (p : Signal → Bool) (xs ys : List Signal) → list_all p xs ≡ true → list_all p ys ≡ true
    → list_all p (xs ++ ys) ≡ true
joined p [] ys f g = grind arith
joined p (x ∷ xs) ys f g = grind (arith, joined p xs ys)

cut : (p : Signal → Bool) (b : Bool) (xs : List Signal) → list_all p xs ≡ true → list_all p (cond b xs []) ≡ true
cut p true xs h = h
cut p false xs h = refl

pub none_fails : (p : Child → Bool) (xs : List Child) → list_all p xs ≡ true → list_any (λ x. not (p x)) xs ≡ false
none_fails p [] h = grind arith
none_fails p (x ∷ xs) h = grind (arith, none_fails p xs)

-- what all elements pass, each one found among them passes
pub passes_among : (p q : Child → Bool) (xs : List Child) → list_all p xs ≡ true → (there : Passing q xs)
    → p there.item ≡ true
passes_among p q xs all there = at (p there.item) refl where
  at : (b : Bool) → p there.item ≡ b → b ≡ true
  at true is = refl
  at false is = both_ways (list_any (λ x. not (p x)) xs) (there.within (λ x. not (p x)) (not_from (p there.item) is))
      (none_fails p xs all)

-- the signals of a spell were told by now
abbrev by_now : ℕ → Signal → Bool
by_now now signal = nat_le signal.time now

told_now : (now : ℕ) (orders : List (Option OrderKind)) → list_all (by_now now) (map (told_at now) orders) ≡ true
told_now now [] = refl
told_now now (order ∷ orders) = and_from (nat_le now now) (list_all (by_now now) (map (told_at now) orders))
    (le-leb now now (omega arith)) (told_now now orders)

later_now : (before now : ℕ) → before ≤ now → (hits : List Signal) → list_all (by_now before) hits ≡ true
    → list_all (by_now now) hits ≡ true
later_now before now less [] h = refl
later_now before now less (signal ∷ hits) h =
    let parts = and_parts (nat_le signal.time before) (list_all (by_now before) hits) h in
    let told : signal.time ≤ before = leb-true signal.time before parts.0 in
    and_from (nat_le signal.time now) (list_all (by_now now) hits) (le-leb signal.time now (omega arith))
    (later_now before now less hits parts.1)

told_by_now : (child : Child) (past : List Event) → list_all (by_now (time_of past)) (spell_hits child past) ≡ true
told_by_now child [] = refl
told_by_now child (Clock reading ∷ past) = cut (by_now (time_of (Clock reading ∷ past)))
    (in_spell child (Clock reading) past) (spell_hits child past) (later_now (time_of past)
    (max (min reading CLOCK_LIMIT) (time_of past)) (omega arith) (spell_hits child past) (told_by_now child past))
told_by_now child (Told i ∷ past) = cut (by_now (time_of past)) (in_spell child (Told i) past)
    (tells_hits child (Told i) past ++ spell_hits child past) (joined (by_now (time_of past))
    (tells_hits child (Told i) past) (spell_hits child past) (new (same_id child.id i)) (told_by_now child past)) where
      new : (b : Bool)
          → list_all (by_now (time_of past)) (cond b (map (told_at (time_of past)) (untold_hits child.id past)) [])
          ≡ true
      new true = told_now (time_of past) (untold_hits child.id past)
      new false = refl
told_by_now child (happening ∷ past) =
    cut (by_now (time_of past)) (in_spell child happening past) (spell_hits child past) (told_by_now child past)

-- if no order is open, no Start is
pub none_open : (id : List ℕ) (past : List Event) → is_idle past ≡ true → is_order Start (open_of id past) ≡ false
none_open id past idle = ap (is_order Start) (idle_none id past idle)

-- an id that is not started in a calm stretch has no birth in it
pub unborn : (goal : Goal) (id : List ℕ) (happening : Event) (between past : List Event)
    → Next goal happening between past → is_order Start (open_of id past) ≡ false
    → list_any (is_start_of id) between ≡ false → is_birth_of id happening ≡ false
unborn goal id (Birth i n) between past next free none = false_from_ne_true (same_id id i)
    (λ own. both_ways (is_order Start (open_of id (between ++ past))) (ap (is_order Start)
    (ap (λ x. open_of x (between ++ past)) (same_id-is id i own) ∙ undone_is_open i Start (between ++ past)
    (is_order-is Start _ (start_undone goal i n (between ++ past) next.may)))) (no_start id between past free none))
unborn goal id happening between past next free none = refl

-- so the spell of an excluded child of the id continues
pub record Grown (child : Child) (between past : List Event) : Type 0 where
  pub new : List Signal
  pub is : spell_hits child (between ++ past) ≡ new ++ spell_hits child past

on : (b c : Bool) (new old : List Signal) → b ≡ true → c ≡ false → cond (b && not c) (new ++ old) [] ≡ new ++ old
on true false new old own other = refl
on true true new old own other = absurd (false≢true (sym other))
on false c new old own other = absurd (false≢true own)

pub grown : (goal : Goal) (child : Child) (between past : List Event) → is_sound goal (between ++ past) ≡ true
    → is_calm between ≡ true → is_order Start (open_of child.id past) ≡ false
    → list_any (is_start_of child.id) between ≡ false → is_excluded past child ≡ true → Grown child between past
grown goal child [] past sound calm free none own = record { new = []; is = refl }
grown goal child (happening ∷ between) past sound calm free none own =
    by (grown goal child between past next.sound next.calm free rest own) where
      next : Next goal happening between past
      next = next_of goal happening between past sound calm

      rest : list_any (is_start_of child.id) between ≡ false
      rest = (or_parts (is_start_of child.id happening) (list_any (is_start_of child.id) between) none).1

      by : Grown child between past → Grown child (happening ∷ between) past
      by before = record {
        new = tells_hits child happening (between ++ past) ++ before.new;
        is = on (is_excluded (happening ∷ (between ++ past)) child) (is_birth_of child.id happening)
            (tells_hits child happening (between ++ past)) (spell_hits child (between ++ past)) (excluded_still
            (happening ∷ between) past calm child ∙ own) (unborn goal child.id happening between past next free rest)
            ∙ ap (λ old. tells_hits child happening (between ++ past) ++ old) before.is
            ∙ sym (append_assoc (tells_hits child happening (between ++ past)) before.new (spell_hits child past));
      }

-- an excluded child that is being stopped after the round
sent : (grace now was k : ℕ) (hits new : List Signal) → list_all (by_now was) hits ≡ true → was + grace ≤ now
    → are_in_force grace now (new ++ hits) ≡ true → 2 - length hits ≤ suc k → 2 - length (new ++ hits) ≤ k
sent grace now was k [] [] told over force lacks = absurd (false≢true force)
sent grace now was k [] (signal ∷ new) told over force lacks = omega arith
sent grace now was k (signal ∷ []) [] told over force lacks =
    both_ways (is_grace_over grace now signal) ripe (not-true (is_grace_over grace now signal) parts.1) where
      parts : (is_order Term signal.order ≡ true) × (not (is_grace_over grace now signal) ≡ true)
      parts = and_parts (is_order Term signal.order) (not (is_grace_over grace now signal)) force

      ripe : is_grace_over grace now signal ≡ true
      ripe =
          let before : signal.time ≤ was = leb-true signal.time was (and_parts (nat_le signal.time was) true told).0 in
          and_from (is_order Term signal.order) (nat_le (signal.time + grace) now) parts.0
          (le-leb (signal.time + grace) now (omega arith))
sent grace now was k (signal ∷ []) (first ∷ new) told over force lacks = let n = length-append new (signal ∷ []) in
    omega (arith, n)
sent grace now was k (signal ∷ first ∷ hits) new told over force lacks = let n =
    length-append new (signal ∷ first ∷ hits) in omega (arith, n)

-- the child that lacks most lacks one signal fewer after an undisturbed round
lacks_excluded : (b : Bool) (n k : ℕ) → not (nat_le (cond b n 0) k) ≡ true → b ≡ true
lacks_excluded true n k h = refl
lacks_excluded false n k h = both_ways (nat_le 0 k) (le-leb 0 k (omega arith)) (not-true (nat_le 0 k) h)

same_grace : (between past : List Event) → is_calm between ≡ true → grace_of (between ++ past) ≡ grace_of past
same_grace [] past calm = grind arith
same_grace (happening ∷ between) past calm = grind (arith, same_grace between past)

-- the child lacks at most `k` signals
abbrev pub lacks : ℕ → List Event → Child → Bool
lacks k past child = nat_le (signals_to_come past child) k

pub lacks_of : (k : ℕ) (past : List Event) (child : Child) → is_excluded past child ≡ true → lacks k past child ≡ true
    → 2 - length (spell_hits child past) ≤ k
lacks_of k past child own h = leb-true (2 - length (spell_hits child past)) k
    (ap (λ b. nat_le (cond b (2 - length (spell_hits child past)) 0) k) (sym own) ∙ h)

of_lacks : (k : ℕ) (past : List Event) (child : Child) → is_excluded past child ≡ true
    → 2 - length (spell_hits child past) ≤ k → lacks k past child ≡ true
of_lacks k past child own less = ap (λ b. nat_le (cond b (2 - length (spell_hits child past)) 0) k) own
    ∙ le-leb (2 - length (spell_hits child past)) k less

-- the signals of a child that is being stopped at the end of the round
stopped_force : (past : List Event) (child : Child) → is_excluded past child ≡ true → is_missed child past ≡ false
    → is_stopping past child ≡ true → are_in_force (grace_of past) (time_of past) (spell_hits child past) ≡ true
stopped_force past child own hit h = grind arith

-- a child that lacks more than just the KILL is sent a signal at once, or lacks none
sent_at_once : (grace now k : ℕ) (hits new : List Signal) → (2 - length hits == 1) ≡ false
    → are_in_force grace now (new ++ hits) ≡ true → 2 - length hits ≤ suc k → 2 - length (new ++ hits) ≤ k
sent_at_once grace now k [] [] other force lacks = absurd (false≢true force)
sent_at_once grace now k [] (signal ∷ new) other force lacks = omega arith
sent_at_once grace now k (signal ∷ []) new other force lacks = absurd (false≢true (sym other))
sent_at_once grace now k (signal ∷ first ∷ hits) new other force lacks = let n =
    length-append new (signal ∷ first ∷ hits) in omega (arith, n)

-- what is known of the round here
pub record Round (goal : Goal) (round past : List Event) : Type 0 where
  pub sound : is_sound goal (round ++ past) ≡ true
  pub sound_before : is_sound goal past ≡ true
  pub idle : is_idle past ≡ true
  pub calm : is_calm round ≡ true
  pub nudged : list_any is_nudge round ≡ true
  pub reached : list_all (λ child. not (is_missed child (round ++ past))) (kept_children (round ++ past)) ≡ true
  pub over : (time_of past + grace_of past ≤ time_of (round ++ past))
      ⊎ (list_all (is_gone round past) (filter (has_kill_to_come past) (kept_children past)) ≡ true)
  pub rest : AtRest goal (round ++ past)
  pub idle_later : is_idle (round ++ past) ≡ true

-- the child that lacks most lacks one signal fewer after the round
pub fewer_signals : (goal : Goal) (round past : List Event) → Round goal round past → (k : ℕ) → list_all (lacks (suc k)
    past) (kept_children past) ≡ true → list_all (lacks k (round ++ past)) (kept_children (round ++ past)) ≡ true
fewer_signals goal round past it k all = all_from (lacks k now) (kept_children now) (false_from_ne_true
    (list_any fails (kept_children now)) (λ some. wrong (passing fails (kept_children now) some))) where
      now : List Event
      now = round ++ past

      fails : Child → Bool
      fails child = not (lacks k now child)

      excluded : (child : Child) → fails child ≡ true → is_excluded now child ≡ true
      excluded child h = lacks_excluded (is_excluded now child) (2 - length (spell_hits child now)) k h

      stays : Child → Bool
      stays child = fails child && (is_stopping now child && not (is_missed child now))

      -- the child was there before
      was : (id : List ℕ) → list_any (is_start_of id) round ≡ false → has_child id (kept_children now) ≡ true
          → Passing (λ x. is_child_of id x && stays x) (kept_children past) → ⊥
      was id none here there = both_ways (lacks k now child) (of_lacks k now child own
          (subst (λ hits. 2 - length hits ≤ k) (sym more.is) fewer)) (not-true (lacks k now child) two.0) where
            child : Child
            child = there.item

            same : id ≡ child.id
            same = same_id-is id child.id (and_parts (is_child_of id child) (stays child) there.passes).0

            two : (fails child ≡ true) × ((is_stopping now child && not (is_missed child now)) ≡ true)
            two = and_parts (fails child) (is_stopping now child && not (is_missed child now))
                (and_parts (is_child_of id child) (stays child) there.passes).1

            stop : (is_stopping now child ≡ true) × (not (is_missed child now) ≡ true)
            stop = and_parts (is_stopping now child) (not (is_missed child now)) two.1

            own : is_excluded now child ≡ true
            own = excluded child two.0

            own_before : is_excluded past child ≡ true
            own_before = sym (excluded_still round past it.calm child) ∙ own

            more : Grown child round past
            more = grown goal child round past it.sound it.calm (none_open child.id past it.idle)
                (ap (λ i. list_any (is_start_of i) round) (sym same) ∙ none) own_before

            force : are_in_force (grace_of now) (time_of now) (spell_hits child now) ≡ true
            force = stopped_force now child own (not-true (is_missed child now) stop.1) stop.0

            not_gone : is_gone round past child ≡ false
            not_gone = or_from (not (has_child child.id (kept_children now))) (list_any (is_start_of child.id) round)
                (ap not (ap (λ i. has_child i (kept_children now)) (sym same) ∙ here))
                (ap (λ i. list_any (is_start_of i) round) (sym same) ∙ none)

            in_force : are_in_force (grace_of past) (time_of now) (more.new ++ spell_hits child past) ≡ true
            in_force = subst (λ hits. are_in_force (grace_of past) (time_of now) hits ≡ true) more.is (ap (λ grace.
                are_in_force grace (time_of now) (spell_hits child now)) (sym (same_grace round past it.calm)) ∙ force)

            lacked : 2 - length (spell_hits child past) ≤ suc k
            lacked = lacks_of (suc k) past child own_before
                (passes_among (lacks (suc k) past) (λ x. is_child_of id x && stays x) (kept_children past) all there)

            others : list_all (is_gone round past) (filter (has_kill_to_come past) (kept_children past)) ≡ true
                → (b : Bool) → has_kill_to_come past child ≡ b → 2 - length (more.new ++ spell_hits child past) ≤ k
            others left true last = both_ways (list_any (λ x. has_kill_to_come past x && not (is_gone round past x))
                (kept_children past))
                (there.within (λ x. has_kill_to_come past x && not (is_gone round past x)) (and_from
                (has_kill_to_come past child) (not (is_gone round past child)) last (not_from (is_gone round past child)
                not_gone))) (filtered_none (is_gone round past) (has_kill_to_come past) (kept_children past) left)
            others left false other = sent_at_once (grace_of past) (time_of now) k (spell_hits child past) more.new
                (ap (λ b. cond b (2 - length (spell_hits child past)) 0 == 1) (sym own_before) ∙ other) in_force lacked

            fewer : 2 - length (more.new ++ spell_hits child past) ≤ k
            fewer = elim it.over [
              | inl over ↦ sent (grace_of past) (time_of now) (time_of past) k (spell_hits child past) more.new
                  (told_by_now child past) over in_force lacked
              | inr left ↦ others left (has_kill_to_come past child) refl
            ]

      wrong : Passing fails (kept_children now) → ⊥
      wrong there = at (list_any (is_start_of there.item.id) round) refl where
        id : List ℕ
        id = there.item.id

        at : (b : Bool) → list_any (is_start_of there.item.id) round ≡ b → ⊥
        at true some = both_ways (list_any (is_excluded now) (kept_children now)) (there.within (is_excluded now)
            (excluded there.item there.passes)) (quit_at goal there.item.id round past it.sound it.calm some).spared
        at false none = was there.item.id none (there.within (is_child_of there.item.id) (same_id-self there.item.id))
            (passing (λ x. is_child_of there.item.id x && stays x) (kept_children past)
            (kept_back goal there.item.id stays round past it.sound it.calm (none_open there.item.id past it.idle) none
            (there.within (λ x. is_child_of there.item.id x && stays x) (and_from (is_child_of there.item.id there.item)
            (stays there.item) (same_id-self there.item.id)
            (and_from (fails there.item) (is_stopping now there.item && not
            (is_missed there.item now)) there.passes
            (and_from (is_stopping now there.item) (not (is_missed there.item now))
            (passes_among (is_stopping now) fails (kept_children now) (stops_at goal now it.sound it.rest it.idle_later)
            there) (passes_among (λ child. not (is_missed child now)) fails (kept_children now) it.reached there)))))))

-- over a calm stretch no child lacks more signals than before
pub no_more_signals : (goal : Goal) (between past : List Event) → is_sound goal (between ++ past) ≡ true
    → is_calm between ≡ true → is_quiet past ≡ true → (k : ℕ) → list_all (lacks k past) (kept_children past) ≡ true
    → list_all (lacks k (between ++ past)) (kept_children (between ++ past)) ≡ true
no_more_signals goal between past sound calm quiet k all = all_from (lacks k now) (kept_children now)
    (false_from_ne_true (list_any fails (kept_children now)) (λ some. wrong (passing fails (kept_children now) some)))
  where
    now : List Event
    now = between ++ past

    fails : Child → Bool
    fails child = not (lacks k now child)

    was : (id : List ℕ) → list_any (is_start_of id) between ≡ false
        → Passing (λ x. is_child_of id x && fails x) (kept_children past) → ⊥
    was id none there = both_ways (lacks k now child) (of_lacks k now child own (subst (λ hits. 2 - length hits ≤ k)
        (sym more.is)
        (no_less k (spell_hits child past) more.new (lacks_of k past child own_before (passes_among (lacks k
        past) (λ x. is_child_of id x && fails x) (kept_children past) all there)))))
        (not-true (lacks k now child) two.1)
      where
        child : Child
        child = there.item

        two : (is_child_of id child ≡ true) × (fails child ≡ true)
        two = and_parts (is_child_of id child) (fails child) there.passes

        own : is_excluded now child ≡ true
        own = lacks_excluded (is_excluded now child) (2 - length (spell_hits child now)) k two.1

        own_before : is_excluded past child ≡ true
        own_before = sym (excluded_still between past calm child) ∙ own

        more : Grown child between past
        more = grown goal child between past sound calm (quiet_start child.id past quiet)
            (ap (λ i. list_any (is_start_of i) between) (sym (same_id-is id child.id two.0)) ∙ none) own_before

        no_less : (n : ℕ) (hits new : List Signal) → 2 - length hits ≤ n → 2 - length (new ++ hits) ≤ n
        no_less n hits new less = let m = length-append new hits in omega (arith, m)

    wrong : Passing fails (kept_children now) → ⊥
    wrong there = at (list_any (is_start_of there.item.id) between) refl where
      at : (b : Bool) → list_any (is_start_of there.item.id) between ≡ b → ⊥
      at true some = both_ways (list_any (is_excluded now) (kept_children now)) (there.within (is_excluded now)
          (lacks_excluded (is_excluded now there.item) (2 - length (spell_hits there.item now)) k there.passes))
          (quit_at goal there.item.id between past sound calm some).spared
      at false none = was there.item.id none (passing (λ x. is_child_of there.item.id x && fails x) (kept_children past)
          (kept_back goal there.item.id fails between past sound calm (quiet_start there.item.id past quiet) none
          (there.within (λ x. is_child_of there.item.id x && fails x)
          (and_from (is_child_of there.item.id there.item) (fails there.item)
          (same_id-self there.item.id) there.passes))))
