-- Over an undisturbed round, a child that had to end and lacks no signal is gone.
use Rattle.core_waiting.proofs.Words.{◌≡◌, ◌≤◌, ◌-◌, refl, sym, ◌∙◌, ap, subst, ℕ, ◌==◌, Bool, true, false, not, ◌&&◌}
use Rattle.core_waiting.proofs.Words.{◌||◌, cond, nat_le, List, [], ◌∷◌, ◌++◌, filter, length, Option, Some, None}
use Rattle.core_waiting.proofs.Words.{length-append, arith, list_any, list_all, false≢true, false_from_ne_true}
use Rattle.core_waiting.proofs.Words.{and_parts, and_from, or_left, or_right, or_parts, or_from, leb-true, none-some}
use Rattle.core_waiting.proofs.Words.{same_Some, OrderKind, Start, Look, Term, Kill, same_id, same_ask, same_id-is}
use Rattle.core_waiting.proofs.Words.{both_ways, falsely, not_from, or_either, any_less, any_filtered, Passing, passing}
use Rattle.core_waiting.proofs.Words.{NewTable, Enter, Asked, Birth, NoBirth, Reaped, Still, NoLook, Hit, Miss, Told}
use Rattle.core_waiting.proofs.Words.{Nudge, Goal, Event, Child, is_child_of, is_child, has_child, open_of, undone_of}
use Rattle.core_waiting.proofs.Words.{is_untold, is_idle, unreaped_children, kept_children, known_children, grace_of}
use Rattle.core_waiting.proofs.Words.{time_of, is_order, is_excluded, Signal, stop_by, is_missed, spell_hits}
use Rattle.core_waiting.proofs.Words.{wants_look, may_come, is_sound, is_order-is, idle_none, undone_is_open, told_same}
use Rattle.core_waiting.proofs.Words.{told_other, reaped_other, told_known, kept_before_told, known_kept, same_has}
use Rattle.core_waiting.proofs.Words.{MayStop, due_facts, sound_holds, look_undone, asked_free, free_told, one_child}
use Rattle.core_waiting.proofs.Words.{has_known, order_known, AtRest, is_calm, is_start_of, is_gone, is_looked_at}
use Rattle.core_waiting.proofs.Words.{is_end_seen, is_vain_look, is_found_ended, is_nudge}
use Rattle.std.proofs.Common.{is_some}
use Rattle.init_words.specs.declared.children.Status.{Status}
use Rattle.trace_events.specs.declared.happenings.Happening.TheVariants.{Call, Power}
use Rattle.trace_events.specs.declared.steps.Step.TheVariants as step
use Rattle.trace_laws.proofs.Lone.{only_one}
use Rattle.core_waiting.proofs.Stops.{looks_at}
use Rattle.core_waiting.proofs.Progress.{Next, next_of, excluded_still, no_start, kept_back}
use Rattle.core_waiting.proofs.Reached.{Round, none_open, Grown, grown, unborn, lacks, lacks_of, passes_among}

-- if no kept child lacks a signal, none is due in the stretch
due_hits : (b c : Bool) (grace now : ℕ) (hits : List Signal) (ask : OrderKind)
    → cond (b && not c) (stop_by grace now hits) None ≡ Some ask → (b && nat_le (length hits) 1) ≡ true
due_hits false c grace now hits ask h = absurd (none-some ask h)
due_hits true true grace now hits ask h = absurd (none-some ask h)
due_hits true false grace now [] ask h = refl
due_hits true false grace now (signal ∷ []) ask h = refl
due_hits true false grace now (signal ∷ first ∷ hits) ask h = absurd (none-some ask h)

unsigned : (goal : Goal) (id : List ℕ) (between past : List Event) → is_sound goal (between ++ past) ≡ true → is_calm
    between ≡ true → is_idle past ≡ true → list_all (lacks 0 past) (kept_children past) ≡ true → list_any (is_start_of
    id) between ≡ false → (i : List ℕ) (ask : OrderKind) → same_id id i ≡ true → MayStop i ask (between ++ past) → ⊥
unsigned goal id between past sound calm idle all none i ask same may =
    wrong (passing (λ x. is_child_of id x && stopped x)
    (kept_children past) (kept_back goal id stopped between past sound calm (none_open id past idle) none (known_kept
    (λ x. is_child_of id x && stopped x) now
    (may.within (λ x. is_child_of id x && stopped x) (and_from (is_child_of id may.child)
    (stopped may.child) (ap (λ x. is_child_of x may.child) (same_id-is id i same) ∙ may.own) (due_hits (is_excluded now
    may.child) (is_missed may.child now) (grace_of now) (time_of now) (spell_hits may.child now) ask may.due)))))) where
      now : List Event
      now = between ++ past

      stopped : Child → Bool
      stopped child = is_excluded now child && nat_le (length (spell_hits child now)) 1

      wrong : Passing (λ x. is_child_of id x && stopped x) (kept_children past) → ⊥
      wrong there = few (spell_hits child past) more.new more.is (leb-true (length (spell_hits child now)) 1 two.1)
          (lacks_of 0 past child own
          (passes_among (lacks 0 past) (λ x. is_child_of id x && stopped x) (kept_children past) all there)) where
            child : Child
            child = there.item

            parts : (is_child_of id child ≡ true) × (stopped child ≡ true)
            parts = and_parts (is_child_of id child) (stopped child) there.passes

            two : (is_excluded now child ≡ true) × (nat_le (length (spell_hits child now)) 1 ≡ true)
            two = and_parts (is_excluded now child) (nat_le (length (spell_hits child now)) 1) parts.1

            own : is_excluded past child ≡ true
            own = sym (excluded_still between past calm child) ∙ two.0

            more : Grown child between past
            more = grown goal child between past sound calm (none_open child.id past idle)
                (ap (λ x. list_any (is_start_of x) between) (sym (same_id-is id child.id parts.0)) ∙ none) own

            few : (hits new : List Signal) → spell_hits child now ≡ new ++ hits → length (spell_hits child now) ≤ 1
                → 2 - length hits ≤ 0 → ⊥
            few hits new is less full = let n = length-append new hits in let m = ap length is in omega (arith, n, m)

-- what has happened so far to the known child of an id: a look at it is due once a round has begun and no look was in
-- vain; or a Look is open; or it was found alive or could not be looked at; or it was found ended; or it is gone
data Fate (id : List ℕ) (nudged seen vain : Bool) (past : List Event) : Type 0 where
  waits : open_of id past ≡ None → has_child id (known_children past) ≡ true → seen ≡ false
      → (nudged ≡ true → vain ≡ false → wants_look id past ≡ true) → Fate id nudged seen vain past
  looked : undone_of id past ≡ Some Look → seen ≡ false → Fate id nudged seen vain past
  alive : open_of id past ≡ Some Look → undone_of id past ≡ None → has_child id (unreaped_children past) ≡ true
      → seen ≡ false → vain ≡ true → Fate id nudged seen vain past
  ended : open_of id past ≡ Some Look → undone_of id past ≡ None → has_child id (unreaped_children past) ≡ false
      → Fate id nudged seen vain past
  gone : has_child id (kept_children past) ≡ false → Fate id nudged seen vain past

-- a happening for another id does not change this
record Carries (id : List ℕ) (happening : Event) (past : List Event) : Type 0 where
  opens : open_of id (happening ∷ past) ≡ open_of id past
  undone : undone_of id (happening ∷ past) ≡ undone_of id past
  known : has_child id (known_children (happening ∷ past)) ≡ has_child id (known_children past)
  reaped : has_child id (unreaped_children (happening ∷ past)) ≡ has_child id (unreaped_children past)
  kept : has_child id (kept_children past) ≡ false → has_child id (kept_children (happening ∷ past)) ≡ false
  looks : wants_look id (happening ∷ past) ≡ wants_look id past

carried : (id : List ℕ) (nudged seen vain sees misses : Bool) (happening : Event) (past : List Event) → sees ≡ seen
    → misses ≡ vain → Carries id happening past → Fate id nudged seen vain past
    → Fate id nudged sees misses (happening ∷ past)
carried id nudged seen vain sees misses happening past same also it (waits free known unseen looks) =
    waits (it.opens ∙ free) (it.known ∙ known) (same ∙ unseen) (λ began good. it.looks ∙ looks began (sym also ∙ good))
carried id nudged seen vain sees misses happening past same also it (looked undone unseen) =
    looked (it.undone ∙ undone) (same ∙ unseen)
carried id nudged seen vain sees misses happening past same also it (alive is done there unseen bad) =
    alive (it.opens ∙ is) (it.undone ∙ done) (it.reaped ∙ there) (same ∙ unseen) (also ∙ bad)
carried id nudged seen vain sees misses happening past same also it (ended is done none) =
    ended (it.opens ∙ is) (it.undone ∙ done) (it.reaped ∙ none)
carried id nudged seen vain sees misses happening past same also it (gone none) = gone (it.kept none)

asked_other : (id i : List ℕ) (ask : OrderKind) (past : List Event) → same_id id i ≡ false
    → Carries id (Asked i ask) past
asked_other id i ask past differ = record {
  opens = ap (λ b. cond b (Some ask) (open_of id past)) differ;
  undone = ap (λ b. cond b (Some ask) (undone_of id past)) differ;
  known = refl;
  reaped = refl;
  kept = λ none. none;
  looks = apart ask;
} where
  apart : (given : OrderKind) → wants_look id (Asked i given ∷ past) ≡ wants_look id past
  apart given = grind arith

told_apart : (id i : List ℕ) (past : List Event) → same_id id i ≡ false → Carries id (Told i) past
told_apart id i past differ = record {
  opens = ap (λ b. cond b None (open_of id past)) differ;
  undone = ap (λ b. cond b None (undone_of id past)) differ;
  known = same_has id (known_children (Told i ∷ past)) (known_children past)
      (told_other id i (unreaped_children past) (known_children past) differ);
  reaped = refl;
  kept = λ none. falsely (has_child id (kept_children (Told i ∷ past))) (has_child id (kept_children past))
      (kept_before_told (is_child_of id) i past) none;
  looks = refl;
}

born_apart : (id i : List ℕ) (n : ℕ) (past : List Event) → same_id id i ≡ false → Carries id (Birth i n) past
born_apart id i n past differ = record {
  opens = refl;
  undone = ap (λ b. cond b None (undone_of id past)) differ;
  known = refl;
  reaped = ap (λ b. b || has_child id (unreaped_children past)) differ;
  kept = λ none. or_from (same_id id i) (has_child id (kept_children past)) differ none;
  looks = ap (λ b. not b && wants_look id past) differ;
}

reaped_apart : (id i : List ℕ) (n : ℕ) (status : Status) (past : List Event) → same_id id i ≡ false
    → Carries id (Reaped i n status) past
reaped_apart id i n status past differ = record {
  opens = refl;
  undone = ap (λ b. cond b None (undone_of id past)) differ;
  known = refl;
  reaped = same_has id (filter (λ child. not (is_child i n child)) (unreaped_children past)) (unreaped_children past)
      (reaped_other id i n (unreaped_children past) differ);
  kept = λ none. none;
  looks = refl;
}

-- the acts for the id
pub at_most : (p r : Child → Bool) → ((x : Child) → r x ≡ true → p x ≡ true) → (xs : List Child)
    → length (filter p xs) ≤ 1 → list_any r xs ≡ true → list_any p (filter (λ x. not (r x)) xs) ≡ false
at_most p r less [] one some = absurd (false≢true some)
at_most p r less (x ∷ xs) one some = at (r x) (p x) refl (less x) one some (at_most p r less xs) where
  others : length (x ∷ filter p xs) ≤ 1 → list_any p (filter (λ y. not (r y)) xs) ≡ false
  others few = falsely (list_any p (filter (λ y. not (r y)) xs)) (list_any p xs) (any_filtered p (λ y. not (r y)) xs)
      (only_one p x xs few)

  at : (b c : Bool) → p x ≡ c → (b ≡ true → c ≡ true) → length (cond c (x ∷ filter p xs) (filter p xs)) ≤ 1 → (b
      || list_any r xs) ≡ true → (length (filter p xs) ≤ 1 → list_any r xs ≡ true → list_any p (filter (λ y. not (r y))
      xs) ≡ false) → list_any p (cond (not b) (x ∷ filter (λ y. not (r y)) xs) (filter (λ y. not (r y)) xs)) ≡ false
  at true true is own one some rest = others one
  at true false is own one some rest = absurd (false≢true (own refl))
  at false true is own one some rest = both_ways (list_any p xs) (any_less r p less xs some) (only_one p x xs one)
  at false false is own one some rest = or_from (p x) (list_any p (filter (λ y. not (r y)) xs)) is (rest one some)

not_acting : (id : List ℕ) (nudged seen vain : Bool) (past : List Event) (ask : OrderKind) → same_ask Look ask ≡ false
    → undone_of id past ≡ Some ask → Fate id nudged seen vain past → has_child id (kept_children past) ≡ false
not_acting id nudged seen vain past ask other is h = grind (arith, none-some, undone_is_open, both_ways, same_Some)

signalled : (id i : List ℕ) (nudged seen vain : Bool) (past : List Event) → same_id id i ≡ true
    → (is_order Term (undone_of i past) || is_order Kill (undone_of i past)) ≡ true → Fate id nudged seen vain past
    → has_child id (kept_children past) ≡ false
signalled id i nudged seen vain past same acts fate = or_either (is_order Term (undone_of i past))
    (is_order Kill (undone_of i past)) acts (on Term refl) (on Kill refl) where
      on : (ask : OrderKind) → same_ask Look ask ≡ false → is_order ask (undone_of i past) ≡ true
          → has_child id (kept_children past) ≡ false
      on ask other is = not_acting id nudged seen vain past ask other
          (ap (λ x. undone_of x past) (same_id-is id i same) ∙ is_order-is ask (undone_of i past) is) fate

looked_at : (id i : List ℕ) (past : List Event) → same_id id i ≡ true → is_order Look (undone_of i past) ≡ true
    → undone_of id past ≡ Some Look
looked_at id i past same undone =
    ap (λ x. undone_of x past) (same_id-is id i same) ∙ is_order-is Look (undone_of i past) undone

reaping : (goal : Goal) (id i : List ℕ) (n : ℕ) (status : Status) (nudged seen vain sees misses : Bool)
    (past : List Event) → is_sound goal past ≡ true → may_come goal (Reaped i n status) past ≡ true
    → same_id id i ≡ true → Fate id nudged seen vain past → Fate id nudged sees misses (Reaped i n status ∷ past)
reaping goal id i n status nudged seen vain sees misses past sound may same fate = at fate where
  two : (is_order Look (undone_of i past) ≡ true) × (list_any (is_child i n) (unreaped_children past) ≡ true)
  two = look_undone goal i n status past may

  undone : undone_of id past ≡ Some Look
  undone = looked_at id i past same two.0

  at : Fate id nudged seen vain past → Fate id nudged sees misses (Reaped i n status ∷ past)
  at (waits free known unseen looks) = absurd (none-some Look (sym free ∙ undone_is_open id Look past undone))
  at (looked was unseen) = ended (undone_is_open id Look past undone) (ap (λ b. cond b None (undone_of id past)) same)
      (at_most (is_child_of id) (is_child i n) (λ x own. ap (λ y. is_child_of y x) (same_id-is id i same) ∙ (and_parts
      (same_id i x.id) (n == x.number) own).0) (unreaped_children past) (one_child goal past sound id) two.1)
  at (alive open_look done there unseen bad) = absurd (none-some Look (sym done ∙ undone))
  at (ended open_look done none) = absurd (none-some Look (sym done ∙ undone))
  at (gone none) = gone none

-- a look in vain changes nothing, except that the order is carried out
in_vain : (goal : Goal) (id i : List ℕ) (nudged seen vain sees misses : Bool) (happening : Event) (past : List Event)
    → is_sound goal past ≡ true → is_order Look (undone_of i past) ≡ true → same_id id i ≡ true → sees ≡ seen → misses
    ≡ true → open_of id (happening ∷ past) ≡ open_of id past → undone_of id (happening ∷ past) ≡ cond (same_id id i)
    None (undone_of id past) → unreaped_children (happening ∷ past) ≡ unreaped_children past → kept_children (happening
    ∷ past) ≡ kept_children past → Fate id nudged seen vain past → Fate id nudged sees misses (happening ∷ past)
in_vain goal id i nudged seen vain sees misses happening past sound look same sights bad opens does reaped kept fate =
    at fate where
      undone : undone_of id past ≡ Some Look
      undone = looked_at id i past same look

      there : has_child id (unreaped_children past) ≡ true
      there =
          sym (same_has id (known_children past) (unreaped_children past) (told_known id past ((sound_holds goal past
          sound).done id Look undone))) ∙ order_known goal past sound id Look (undone_is_open id Look past undone) refl

      at : Fate id nudged seen vain past → Fate id nudged sees misses (happening ∷ past)
      at (waits free known unseen looks) = absurd (none-some Look (sym free ∙ undone_is_open id Look past undone))
      at (looked was unseen) = alive (opens ∙ undone_is_open id Look past undone)
          (does ∙ ap (λ b. cond b None (undone_of id past)) same) (ap (has_child id) reaped ∙ there)
          (sights ∙ unseen) bad
      at (alive open_look done unreaped unseen worse) = absurd (none-some Look (sym done ∙ undone))
      at (ended open_look done none) = absurd (none-some Look (sym done ∙ undone))
      at (gone none) = gone (ap (has_child id) kept ∙ none)

telling : (goal : Goal) (id i : List ℕ) (nudged seen vain : Bool) (past : List Event) → is_sound goal past ≡ true
    → is_untold i past ≡ true → same_id id i ≡ true → Fate id nudged seen vain past
    → Fate id nudged seen vain (Told i ∷ past)
telling goal id i nudged seen vain past sound may same fate = at fate where
  untold : is_untold id past ≡ true
  untold = ap (λ x. is_untold x past) (same_id-is id i same) ∙ may

  at : Fate id nudged seen vain past → Fate id nudged seen vain (Told i ∷ past)
  at (waits free known unseen looks) =
      both_ways (is_untold id past) untold (free_told id past (sound_holds goal past sound).told free)
  at (looked undone unseen) = both_ways (is_untold id past) untold ((sound_holds goal past sound).done id Look undone)
  at (alive open_look done there unseen bad) = waits (ap (λ b. cond b None (open_of id past)) same)
      (same_has id (known_children (Told i ∷ past)) (unreaped_children past) (told_same id i (unreaped_children past)
      (known_children past) same) ∙ there) unseen (λ began good. both_ways vain bad good)
  at (ended open_look done none) = gone (same_has id (kept_children (Told i ∷ past)) (unreaped_children past)
      (told_same id i (unreaped_children past) (kept_children past) same) ∙ none)
  at (gone none) = gone (falsely (has_child id (kept_children (Told i ∷ past))) (has_child id (kept_children past))
      (kept_before_told (is_child_of id) i past) none)

looking : (goal : Goal) (id i : List ℕ) (nudged seen vain : Bool) (past : List Event) → may_come goal (Asked i Look)
    past ≡ true → same_id id i ≡ true → Fate id nudged seen vain past → Fate id nudged seen vain (Asked i Look ∷ past)
looking goal id i nudged seen vain past may same fate = at fate where
  free : open_of id past ≡ None
  free = ap (λ x. open_of x past) (same_id-is id i same) ∙ asked_free goal i Look past may

  at : Fate id nudged seen vain past → Fate id nudged seen vain (Asked i Look ∷ past)
  at (waits is known unseen looks) = looked (ap (λ b. cond b (Some Look) (undone_of id past)) same) unseen
  at (looked undone unseen) = absurd (none-some Look (sym free ∙ undone_is_open id Look past undone))
  at (alive open_look done there unseen bad) = absurd (none-some Look (sym free ∙ open_look))
  at (ended open_look done none) = absurd (none-some Look (sym free ∙ open_look))
  at (gone none) = both_ways (has_child id (kept_children past)) (known_kept (is_child_of id) past (ap (λ x. has_child x
      (known_children past)) (same_id-is id i same) ∙ (due_facts goal past (step.Order i Look) may).there)) none

-- a start that failed was not for an id that is not started
unstarted : (goal : Goal) (id i : List ℕ) (between past : List Event) → is_order Start (open_of id past) ≡ false
    → list_any (is_start_of id) between ≡ false → is_order Start (undone_of i (between ++ past)) ≡ true
    → same_id id i ≡ false
unstarted goal id i between past free none undone = false_from_ne_true (same_id id i) (λ own. both_ways (is_order Start
    (open_of id (between ++ past))) (ap (is_order Start) (ap (λ x. open_of x (between ++ past)) (same_id-is id i own)
    ∙ undone_is_open i Start (between ++ past) (is_order-is Start _ undone))) (no_start id between past free none))

-- over the stretch
abbrev FateIn : List ℕ → List Event → List Event → Type 0
FateIn id between past = Fate id (list_any is_nudge between) (list_any (is_end_seen id) between)
    (list_any (is_vain_look id) between) (between ++ past)

passed : (id : List ℕ) (happening : Event) (between past : List Event) → list_any is_nudge (happening ∷ between)
    ≡ list_any is_nudge between → list_any (is_end_seen id) (happening ∷ between) ≡ list_any (is_end_seen id) between
    → list_any (is_vain_look id) (happening ∷ between) ≡ list_any (is_vain_look id) between
    → Carries id happening (between ++ past) → FateIn id between past → FateIn id (happening ∷ between) past
passed id happening between past began same also it before = subst (λ b. Fate id b (list_any (is_end_seen id)
    (happening ∷ between)) (list_any (is_vain_look id) (happening ∷ between)) (happening ∷ (between ++ past)))
    (sym began) (carried id (list_any is_nudge between) (list_any (is_end_seen id) between)
    (list_any (is_vain_look id) between) (list_any (is_end_seen id) (happening ∷ between))
    (list_any (is_vain_look id) (happening ∷ between)) happening (between ++ past) same also it before)

plain : (id : List ℕ) (happening : Event) (past : List Event) → open_of id (happening ∷ past) ≡ open_of id past
    → undone_of id (happening ∷ past) ≡ undone_of id past → known_children (happening ∷ past) ≡ known_children past
    → unreaped_children (happening ∷ past) ≡ unreaped_children past → kept_children (happening ∷ past)
    ≡ kept_children past → wants_look id (happening ∷ past) ≡ wants_look id past → Carries id happening past
plain id happening past opens undone known reaped kept looks = record {
  opens = opens;
  undone = undone;
  known = ap (has_child id) known;
  reaped = ap (has_child id) reaped;
  kept = λ none. ap (has_child id) kept ∙ none;
  looks = looks;
}

fate : (goal : Goal) (id : List ℕ) (between past : List Event) → is_sound goal (between ++ past) ≡ true
    → is_calm between ≡ true → is_idle past ≡ true → list_all (lacks 0 past) (kept_children past) ≡ true
    → has_child id (known_children past) ≡ true → list_any (is_start_of id) between ≡ false → FateIn id between past
fate goal id [] past sound calm idle all known none =
    waits (idle_none id past idle) known refl (λ began. absurd (false≢true began))
fate goal id (NewTable table ∷ between) past sound calm idle all known none = absurd (false≢true calm)
fate goal id (Enter s grace ∷ between) past sound calm idle all known none = absurd (false≢true calm)
fate goal id (Power kind ∷ between) past sound calm idle all known none = absurd (false≢true calm)
fate goal id (Call letter ∷ between) past sound calm idle all known none = absurd (false≢true calm)
fate goal id (Asked i Start ∷ between) past sound calm idle all known none =
    let next = next_of goal (Asked i Start) between past sound calm in
    let parts = or_parts (same_id id i) (list_any (is_start_of id) between) none in
    passed id (Asked i Start) between past refl refl refl (asked_other id i Start (between ++ past) parts.0)
    (fate goal id between past next.sound next.calm idle all known parts.1)
fate goal id (Asked i Look ∷ between) past sound calm idle all known none =
    at (same_id id i) refl (fate goal id between past next.sound next.calm idle all known none) where
      next : Next goal (Asked i Look) between past
      next = next_of goal (Asked i Look) between past sound calm

      at : (b : Bool) → same_id id i ≡ b → FateIn id between past → FateIn id (Asked i Look ∷ between) past
      at true same before = looking goal id i (list_any is_nudge between) (list_any (is_end_seen id) between)
          (list_any (is_vain_look id) between) (between ++ past) next.may same before
      at false differ before =
          passed id (Asked i Look) between past refl refl refl (asked_other id i Look (between ++ past) differ) before
fate goal id (Asked i Term ∷ between) past sound calm idle all known none =
    let next = next_of goal (Asked i Term) between past sound calm in
    passed id (Asked i Term) between past refl refl refl
    (asked_other id i Term (between ++ past) (false_from_ne_true (same_id id i) (λ same. unsigned goal id between past
    next.sound next.calm idle all none i Term same (due_facts goal (between ++ past) (step.Order i Term) next.may))))
    (fate goal id between past next.sound next.calm idle all known none)
fate goal id (Asked i Kill ∷ between) past sound calm idle all known none =
    let next = next_of goal (Asked i Kill) between past sound calm in
    passed id (Asked i Kill) between past refl refl refl
    (asked_other id i Kill (between ++ past) (false_from_ne_true (same_id id i) (λ same. unsigned goal id between past
    next.sound next.calm idle all none i Kill same (due_facts goal (between ++ past) (step.Order i Kill) next.may))))
    (fate goal id between past next.sound next.calm idle all known none)
fate goal id (Told i ∷ between) past sound calm idle all known none =
    at (same_id id i) refl (fate goal id between past next.sound next.calm idle all known none) where
      next : Next goal (Told i) between past
      next = next_of goal (Told i) between past sound calm

      at : (b : Bool) → same_id id i ≡ b → FateIn id between past → FateIn id (Told i ∷ between) past
      at true same before = telling goal id i (list_any is_nudge between) (list_any (is_end_seen id) between)
          (list_any (is_vain_look id) between) (between ++ past) next.sound next.may same before
      at false differ before =
          passed id (Told i) between past refl refl refl (told_apart id i (between ++ past) differ) before
fate goal id (Birth i n ∷ between) past sound calm idle all known none =
    let next = next_of goal (Birth i n) between past sound calm in
    passed id (Birth i n) between past refl refl refl
    (born_apart id i n (between ++ past) (unborn goal id (Birth i n) between past next (none_open id past idle) none))
    (fate goal id between past next.sound next.calm idle all known none)
fate goal id (NoBirth i ∷ between) past sound calm idle all known none =
    let next = next_of goal (NoBirth i) between past sound calm in
    passed id (NoBirth i) between past refl refl refl (plain id (NoBirth i) (between ++ past) refl (ap (λ b. cond b None
    (undone_of id (between ++ past))) (unstarted goal id i between past (none_open id past idle) none next.may)) refl
    refl refl refl) (fate goal id between past next.sound next.calm idle all known none)
fate goal id (Reaped i n status ∷ between) past sound calm idle all known none =
    at (same_id id i) refl (fate goal id between past next.sound next.calm idle all known none) where
      next : Next goal (Reaped i n status) between past
      next = next_of goal (Reaped i n status) between past sound calm

      at : (b : Bool) → same_id id i ≡ b → FateIn id between past → FateIn id (Reaped i n status ∷ between) past
      at true same before = reaping goal id i n status (list_any is_nudge between) (list_any (is_end_seen id) between)
          (list_any (is_vain_look id) between) (list_any (is_end_seen id) (Reaped i n status ∷ between))
          (list_any (is_vain_look id) (Reaped i n status ∷ between)) (between ++ past) next.sound next.may same before
      at false differ before = passed id (Reaped i n status) between past refl (ap (λ b. b
          || list_any (is_end_seen id) between) differ) refl
          (reaped_apart id i n status (between ++ past) differ) before
fate goal id (Still i ∷ between) past sound calm idle all known none =
    at (same_id id i) refl (fate goal id between past next.sound next.calm idle all known none) where
      next : Next goal (Still i) between past
      next = next_of goal (Still i) between past sound calm

      at : (b : Bool) → same_id id i ≡ b → FateIn id between past → FateIn id (Still i ∷ between) past
      at true same before = in_vain goal id i (list_any is_nudge between) (list_any (is_end_seen id) between)
          (list_any (is_vain_look id) between) (list_any (is_end_seen id) (Still i ∷ between))
          (list_any (is_vain_look id) (Still i ∷ between)) (Still i) (between ++ past) next.sound next.may same refl
          (or_left (same_id id i) (list_any (is_vain_look id) between) same) refl refl refl refl before
      at false differ before = passed id (Still i) between past refl refl
          (ap (λ b. b || list_any (is_vain_look id) between) differ) (plain id (Still i) (between ++ past) refl
          (ap (λ b. cond b None (undone_of id (between ++ past))) differ) refl refl refl refl) before
fate goal id (NoLook i ∷ between) past sound calm idle all known none =
    at (same_id id i) refl (fate goal id between past next.sound next.calm idle all known none) where
      next : Next goal (NoLook i) between past
      next = next_of goal (NoLook i) between past sound calm

      at : (b : Bool) → same_id id i ≡ b → FateIn id between past → FateIn id (NoLook i ∷ between) past
      at true same before = in_vain goal id i (list_any is_nudge between) (list_any (is_end_seen id) between)
          (list_any (is_vain_look id) between) (list_any (is_end_seen id) (NoLook i ∷ between))
          (list_any (is_vain_look id) (NoLook i ∷ between)) (NoLook i) (between ++ past) next.sound next.may same refl
          (or_left (same_id id i) (list_any (is_vain_look id) between) same) refl refl refl refl before
      at false differ before = passed id (NoLook i) between past refl refl
          (ap (λ b. b || list_any (is_vain_look id) between) differ) (plain id (NoLook i) (between ++ past) refl
          (ap (λ b. cond b None (undone_of id (between ++ past))) differ) refl refl refl refl) before
fate goal id (Hit i ∷ between) past sound calm idle all known none =
    at (same_id id i) refl (fate goal id between past next.sound next.calm idle all known none) where
      next : Next goal (Hit i) between past
      next = next_of goal (Hit i) between past sound calm

      at : (b : Bool) → same_id id i ≡ b → FateIn id between past → FateIn id (Hit i ∷ between) past
      at true same before = gone (signalled id i (list_any is_nudge between) (list_any (is_end_seen id) between)
          (list_any (is_vain_look id) between) (between ++ past) same next.may before)
      at false differ before = passed id (Hit i) between past refl refl refl (plain id (Hit i) (between ++ past) refl
          (ap (λ b. cond b None (undone_of id (between ++ past))) differ) refl refl refl refl) before
fate goal id (Miss i ∷ between) past sound calm idle all known none =
    at (same_id id i) refl (fate goal id between past next.sound next.calm idle all known none) where
      next : Next goal (Miss i) between past
      next = next_of goal (Miss i) between past sound calm

      at : (b : Bool) → same_id id i ≡ b → FateIn id between past → FateIn id (Miss i ∷ between) past
      at true same before = gone (signalled id i (list_any is_nudge between) (list_any (is_end_seen id) between)
          (list_any (is_vain_look id) between) (between ++ past) same next.may before)
      at false differ before = passed id (Miss i) between past refl refl refl (plain id (Miss i) (between ++ past) refl
          (ap (λ b. cond b None (undone_of id (between ++ past))) differ) refl refl refl refl) before
fate goal id (Nudge ∷ between) past sound calm idle all known none =
    at (fate goal id between past next.sound next.calm idle all known none) where
      next : Next goal Nudge between past
      next = next_of goal Nudge between past sound calm

      at : FateIn id between past → FateIn id (Nudge ∷ between) past
      at (waits free there unseen looks) = waits free there unseen (λ began good. there)
      at (looked undone unseen) = looked undone unseen
      at (alive open_look done there unseen bad) = alive open_look done there unseen bad
      at (ended open_look done none_there) = ended open_look done none_there
      at (gone none_there) = gone none_there
fate goal id (happening ∷ between) past sound calm idle all known none =
    let next = next_of goal happening between past sound calm in
    passed id happening between past refl refl refl (plain id happening (between ++ past) refl refl refl refl refl refl)
    (fate goal id between past next.sound next.calm idle all known none)

-- at the end of the stretch, which is a rest, the child is gone
fate_gone : (goal : Goal) (id : List ℕ) (seen vain : Bool) (past : List Event) → is_sound goal past ≡ true
    → AtRest goal past → is_idle past ≡ true → (seen || not vain) ≡ true → Fate id true seen vain past
    → has_child id (kept_children past) ≡ false
fate_gone goal id seen vain past sound rest idle found (waits free known unseen looks) =
    absurd (wrong (passing (is_child_of id) (known_children past) known)) where
      good : (a b : Bool) → a ≡ false → (a || not b) ≡ true → b ≡ false
      good true b unseen h = absurd (false≢true (sym unseen))
      good false true unseen h = absurd (false≢true h)
      good false false unseen h = refl

      wrong : Passing (is_child_of id) (known_children past) → ⊥
      wrong there = by (open_of there.item.id past) (wants_look there.item.id past) (idle_none there.item.id past idle)
          (ap (λ x. wants_look x past) (sym (same_id-is id there.item.id there.passes))
          ∙ looks refl (good seen vain unseen found))
          (passes_among (is_looked_at past) (is_child_of id) (known_children past)
          (looks_at goal past sound rest) there)
        where
          by : (o : Option OrderKind) (b : Bool) → o ≡ None → b ≡ true → (is_some o || not b) ≡ true → ⊥
          by None true free wants h = false≢true h
          by None false free wants h = false≢true wants
          by (Some ask) b free wants h = none-some ask (sym free)
fate_gone goal id seen vain past sound rest idle found (looked undone unseen) =
    absurd (none-some Look (sym (idle_none id past idle) ∙ undone_is_open id Look past undone))
fate_gone goal id seen vain past sound rest idle found (alive open_look done there unseen bad) =
    absurd (none-some Look (sym (idle_none id past idle) ∙ open_look))
fate_gone goal id seen vain past sound rest idle found (ended open_look done none) =
    absurd (none-some Look (sym (idle_none id past idle) ∙ open_look))
fate_gone goal id seen vain past sound rest idle found (gone none) = none

pub ended_gone : (goal : Goal) (round past : List Event) → Round goal round past
    → list_all (lacks 0 past) (kept_children past) ≡ true → (child : Child) → has_child child.id (kept_children past)
    ≡ true → is_found_ended child.id round ≡ true → is_gone round past child ≡ true
ended_gone goal round past it all child there found = at (list_any (is_start_of child.id) round) refl where
  known : has_child child.id (known_children past) ≡ true
  known = sym (has_known goal past it.sound_before child.id (none_open child.id past it.idle)) ∙ there

  at : (b : Bool) → list_any (is_start_of child.id) round ≡ b → is_gone round past child ≡ true
  at true some =
      or_right (not (has_child child.id (kept_children (round ++ past)))) (list_any (is_start_of child.id) round) some
  at false none = or_left (not (has_child child.id (kept_children (round ++ past))))
      (list_any (is_start_of child.id) round) (not_from (has_child child.id (kept_children (round ++ past)))
      (fate_gone goal child.id (list_any (is_end_seen child.id) round) (list_any (is_vain_look child.id) round)
      (round ++ past) it.sound it.rest it.idle_later found
      (subst (λ b. Fate child.id b (list_any (is_end_seen child.id) round) (list_any (is_vain_look child.id) round)
      (round ++ past)) it.nudged (fate goal child.id round past it.sound it.calm it.idle all known none))))
