-- In each spell of an unreaped child, at most one KILL that was sent is told.
use Rattle.trace_laws.proofs.Words.{◌≡◌, ◌≤◌, ◌+◌, refl, sym, ◌∙◌, ap, subst, ℕ, Bool, true, false, not, ◌&&◌, ◌||◌}
use Rattle.trace_laws.proofs.Words.{cond, nat_le, List, [], ◌∷◌, ◌++◌, filter, map, length, Option, Some, None, arith}
use Rattle.trace_laws.proofs.Words.{le_trans, le_refl, length-append, list_any, list_all, false≢true, and_parts}
use Rattle.trace_laws.proofs.Words.{and_from, or_left, or_parts, le-leb, leb-true, filter-append, OrderKind, Start}
use Rattle.trace_laws.proofs.Words.{Look, Term, Kill, same_id, Asked, Birth, NoBirth, Reaped, Still, NoLook, Hit, Miss}
use Rattle.trace_laws.proofs.Words.{Told, Goal, Event, Child, grace_of, time_of, is_child_of, is_child, open_of}
use Rattle.trace_laws.proofs.Words.{undone_of}
use Rattle.trace_laws.proofs.Words.{is_untold, newborn, unreaped_children, is_order, Signal, untold_hits, told_at}
use Rattle.trace_laws.proofs.Words.{in_spell, spell_hits, is_due, may_come, is_sound, at_most_one_kill, same_id-is}
use Rattle.trace_laws.proofs.Words.{same_id-self, same_id-sym, both_ways, any_less, all_less, all_fail}
use Rattle.trace_events.specs.declared.steps.Step.TheVariants as step
use Rattle.trace_laws.proofs.Tests.{is_order-is}
use Rattle.trace_laws.proofs.Orders.{undone_is_open}
use Rattle.trace_laws.proofs.Lone.{only_one}
use Rattle.trace_laws.proofs.Dues.{MayStop, due_facts}
use Rattle.trace_laws.proofs.Keeps.{sound_holds, sound_ind, asked_free, free_told, stop_unreaped}
use Rattle.trace_laws.proofs.Births.{one_child, at_moment}
use Rattle.trace_laws.proofs.Signals.{OneRipe, kill_ripe}

-- the KILLs that were told, those sent but not told, and the one that was ordered but not carried out
abbrev killing : Signal → Bool
killing signal = is_order Kill signal.order

abbrev told_kills : Child → List Event → ℕ
told_kills child past = length (filter killing (spell_hits child past))

abbrev coming : Option OrderKind → ℕ
coming order = cond (is_order Kill order) 1 0

abbrev other_kills : List ℕ → List Event → ℕ
other_kills id past = length (filter (is_order Kill) (untold_hits id past)) + coming (undone_of id past)

abbrev kills : Child → List Event → ℕ
kills child past = told_kills child past + other_kills child.id past

add_less : (a b c d : ℕ) → a ≤ c → b ≤ d → a + b ≤ c + d
add_less a b c d ac bd = omega arith

spell_same : (b : Bool) (old : List Signal)
    → length (filter killing (cond b ([] ++ old) [])) ≤ length (filter killing old)
spell_same b old = grind arith

told_same_kills : (now : ℕ) (orders : List (Option OrderKind))
    → length (filter killing (map (told_at now) orders)) ≡ length (filter (is_order Kill) orders)
told_same_kills now [] = refl
told_same_kills now (order ∷ orders) = grind (arith, told_same_kills now orders)

-- an act on another order adds nothing that is under way
act_less : (b : Bool) (n : ℕ) (order : Option OrderKind) → n + coming (cond b None order) ≤ n + coming order
act_less b n order = grind arith

born_less : (b : Bool) (orders : List (Option OrderKind)) (order : Option OrderKind) → length (filter (is_order Kill)
    (cond b [] orders)) + coming (cond b None order) ≤ length (filter (is_order Kill) orders) + coming order
born_less b orders order = grind arith

asked_less : (b : Bool) (n : ℕ) (ask : OrderKind) (order : Option OrderKind) → is_order Kill (Some ask) ≡ false
    → n + coming (cond b (Some ask) order) ≤ n + coming order
asked_less b n ask order other = grind arith

-- a signal is sent on the order that was not carried out yet
hit_less : (b : Bool) (orders : List (Option OrderKind)) (left given : Option OrderKind) → (b ≡ true → left ≡ given)
    → length (filter (is_order Kill) (cond b (given ∷ orders) orders)) + coming (cond b None left)
    ≤ length (filter (is_order Kill) orders) + coming left
hit_less b orders left given is = grind arith

told_less : (b c : Bool) (now : ℕ) (orders : List (Option OrderKind)) (left : Option OrderKind) (old : List Signal)
    → length (filter killing (cond c (cond b (map (told_at now) orders) [] ++ old) []))
    + (length (filter (is_order Kill) (cond b [] orders)) + coming (cond b None left))
    ≤ length (filter killing old) + (length (filter (is_order Kill) orders) + coming left)
told_less b c now orders left old = grind (arith, filter-append, length-append, told_same_kills, add_less, spell_same)

undone_given : (id : List ℕ) (past : List Event) → (is_order Term (undone_of id past)
    || is_order Kill (undone_of id past)) ≡ true → undone_of id past ≡ open_of id past
undone_given id past h = grind (arith, is_order-is, undone_is_open)

-- no happening other than the order of a KILL increases the count for a child
abbrev is_kill : Event → Bool
is_kill (Asked i Kill) = true
is_kill _ = false

kills_less : (goal : Goal) (happening : Event) (past : List Event) → may_come goal happening past ≡ true
    → is_kill happening ≡ false → (child : Child) → kills child (happening ∷ past) ≤ kills child past
kills_less goal (Birth i n) past may other child = add_less _ _ _ _ (spell_same (in_spell child (Birth i n) past)
    (spell_hits child past)) (born_less (same_id child.id i) (untold_hits child.id past) (undone_of child.id past))
kills_less goal (Told i) past may other child = told_less (same_id child.id i) (in_spell child (Told i) past)
    (time_of past) (untold_hits child.id past) (undone_of child.id past) (spell_hits child past)
kills_less goal (Hit i) past may other child =
    add_less _ _ _ _ (spell_same (in_spell child (Hit i) past) (spell_hits child past)) (hit_less (same_id child.id i)
    (untold_hits child.id past) (undone_of child.id past) (open_of child.id past) (λ same. let P : List ℕ → Type 0 =
    λ x. undone_of x past ≡ open_of x past in subst P (sym (same_id-is child.id i same)) (undone_given i past may)))
kills_less goal (Asked i Start) past may other child = add_less _ _ _ _ (spell_same (in_spell child (Asked i Start)
    past) (spell_hits child past)) (asked_less (same_id child.id i) _ Start (undone_of child.id past) refl)
kills_less goal (Asked i Look) past may other child = add_less _ _ _ _ (spell_same (in_spell child (Asked i Look) past)
    (spell_hits child past)) (asked_less (same_id child.id i) _ Look (undone_of child.id past) refl)
kills_less goal (Asked i Term) past may other child = add_less _ _ _ _ (spell_same (in_spell child (Asked i Term) past)
    (spell_hits child past)) (asked_less (same_id child.id i) _ Term (undone_of child.id past) refl)
kills_less goal (Asked i Kill) past may other child = absurd (false≢true (sym other))
kills_less goal (NoBirth i) past may other child = add_less _ _ _ _ (spell_same (in_spell child (NoBirth i) past)
    (spell_hits child past)) (act_less (same_id child.id i) _ (undone_of child.id past))
kills_less goal (Reaped i n status) past may other child = add_less _ _ _ _ (spell_same (in_spell child
    (Reaped i n status) past) (spell_hits child past)) (act_less (same_id child.id i) _ (undone_of child.id past))
kills_less goal (Still i) past may other child = add_less _ _ _ _ (spell_same (in_spell child (Still i) past)
    (spell_hits child past)) (act_less (same_id child.id i) _ (undone_of child.id past))
kills_less goal (NoLook i) past may other child = add_less _ _ _ _ (spell_same (in_spell child (NoLook i) past)
    (spell_hits child past)) (act_less (same_id child.id i) _ (undone_of child.id past))
kills_less goal (Miss i) past may other child = add_less _ _ _ _ (spell_same (in_spell child (Miss i) past)
    (spell_hits child past)) (act_less (same_id child.id i) _ (undone_of child.id past))
kills_less goal happening past may other child = add_less _ _ _ _
    (spell_same (in_spell child happening past) (spell_hits child past)) (le_refl (other_kills child.id past))

-- an id without untold acts has no untold signal
pub hits_told : (id : List ℕ) (past : List Event) → is_untold id past ≡ false → untold_hits id past ≡ []
hits_told id [] h = refl
hits_told id (Told i ∷ past) h = grind (arith, hits_told id past)
hits_told id (Birth i n ∷ past) h = let parts = or_parts (same_id id i) (is_untold id past) h in
    rw parts.0 (hits_told id past parts.1)
hits_told id (Hit i ∷ past) h = let parts = or_parts (same_id id i) (is_untold id past) h in
    rw parts.0 (hits_told id past parts.1)
hits_told id (NoBirth i ∷ past) h = hits_told id past (or_parts (same_id id i) (is_untold id past) h).1
hits_told id (Reaped i n status ∷ past) h = hits_told id past (or_parts (same_id id i) (is_untold id past) h).1
hits_told id (Still i ∷ past) h = hits_told id past (or_parts (same_id id i) (is_untold id past) h).1
hits_told id (NoLook i ∷ past) h = hits_told id past (or_parts (same_id id i) (is_untold id past) h).1
hits_told id (Miss i ∷ past) h = hits_told id past (or_parts (same_id id i) (is_untold id past) h).1
hits_told id (_ ∷ past) h = hits_told id past h

-- if at most one element passes `p`, and one passes both `p` and `r`, then every element that passes `p` passes `r`
one_all : (p r : Child → Bool) (xs : List Child) → length (filter p xs) ≤ 1 → list_any (λ x. p x && r x) xs ≡ true
    → list_all (λ x. not (p x) || r x) xs ≡ true
one_all p r [] one there = refl
one_all p r (x ∷ xs) one there = split (p x) (r x) one there (one_all p r xs) where
  others : list_any p xs ≡ false → list_all (λ y. not (p y) || r y) xs ≡ true
  others none = all_less (λ y. not (p y)) (λ y. not (p y) || r y) (λ y free. or_left (not (p y)) (r y) free) xs
      (all_fail p xs none)

  split : (b c : Bool) → length (cond b (x ∷ filter p xs) (filter p xs)) ≤ 1 → (b && c || list_any (λ y. p y && r y) xs)
      ≡ true → (length (filter p xs) ≤ 1 → list_any (λ y. p y && r y) xs ≡ true
      → list_all (λ y. not (p y) || r y) xs ≡ true) → ((not b || c) && list_all (λ y. not (p y) || r y) xs) ≡ true
  split true true one there rest = others (only_one p x xs one)
  split true false one there rest = both_ways (list_any p xs)
      (any_less (λ y. p y && r y) p (λ y both. (and_parts (p y) (r y) both).0) xs there) (only_one p x xs one)
  split false c one there rest = rest one there

all_and : (p q : Child → Bool) (xs : List Child) → list_all p xs ≡ true → list_all q xs ≡ true
    → list_all (λ x. p x && q x) xs ≡ true
all_and p q [] f g = refl
all_and p q (x ∷ xs) f g = grind (arith, all_and p q xs)

all_filtered : (p q : Child → Bool) (xs : List Child) → list_all p xs ≡ true → list_all p (filter q xs) ≡ true
all_filtered p q [] h = refl
all_filtered p q (x ∷ xs) h = grind (arith, all_filtered p q xs)

-- each unreaped child has at most one KILL
abbrev few_kills : List Event → Child → Bool
few_kills past child = nat_le (kills child past) 1

-- when a KILL is ordered, none was told to the child, and none is under way
abbrev no_kill : List Event → Child → Bool
no_kill past child = nat_le (told_kills child past) 0

kill_first : (goal : Goal) (i : List ℕ) (past : List Event) → is_due goal (step.Order i Kill) past ≡ true → is_sound
    goal past ≡ true
    → list_all (λ child. not (is_child_of i child) || no_kill past child) (unreaped_children past) ≡ true
kill_first goal i past due sound =
    one_all (is_child_of i) (no_kill past) (unreaped_children past) (one_child goal past sound
    i) (stop_unreaped i Kill past (sound_holds goal past sound).told may (no_kill past) none) where
      may : MayStop i Kill past
      may = due_facts goal past (step.Order i Kill) due

      one : OneRipe (grace_of past) (time_of past) (spell_hits may.child past)
      one = kill_ripe may.child past may.due

      term : one.signal.order ≡ Some Term
      term = is_order-is Term one.signal.order (and_parts (is_order Term one.signal.order) _ one.ripe).0

      none : no_kill past may.child ≡ true
      none = ap (λ hits. nat_le (length (filter killing hits)) 0) one.only
          ∙ ap (λ order. nat_le (length (cond (is_order Kill order) (one.signal ∷ []) [])) 0) term

killed_less : (b c : Bool) (orders : List (Option OrderKind)) (left : Option OrderKind) (old : List Signal)
    → (b ≡ true → orders ≡ []) → length (filter killing old) + (length (filter (is_order Kill) orders) + coming left)
    ≤ 1 → (not b || nat_le (length (filter killing old)) 0) ≡ true → length (filter killing (cond c ([] ++ old) []))
    + (length (filter (is_order Kill) orders) + coming (cond b (Some Kill) left)) ≤ 1
killed_less b c orders left old free few none = grind arith

begun_few : (i : List ℕ) (n : ℕ) (past : List Event) → few_kills (Birth i n ∷ past) (newborn i n past) ≡ true
begun_few i n past = grind (arith, same_id-self)

sound_kills : (goal : Goal) (past : List Event) → is_sound goal past ≡ true
    → list_all (few_kills past) (unreaped_children past) ≡ true
sound_kills goal past h = sound_ind goal (λ before. list_all (few_kills before) (unreaped_children before) ≡ true)
    (λ table distinct. refl) next past h where
      fewer : (happening : Event) (before : List Event) → may_come goal happening before ≡ true
          → is_kill happening ≡ false
          → (child : Child) → few_kills before child ≡ true → few_kills (happening ∷ before) child ≡ true
      fewer happening before may other child few = le-leb (kills child (happening ∷ before)) 1
          (le_trans (kills_less goal happening before may other child) (leb-true (kills child before) 1 few))

      next : (happening : Event) (before : List Event) → may_come goal happening before ≡ true
          → is_sound goal before ≡ true → list_all (few_kills before) (unreaped_children before) ≡ true
          → list_all (few_kills (happening ∷ before)) (unreaped_children (happening ∷ before)) ≡ true
      next (Birth i n) before may sound few = and_from (few_kills (Birth i n ∷ before) (newborn i n before)) (list_all
          (few_kills (Birth i n ∷ before)) (unreaped_children before)) (begun_few i n before)
          (all_less (few_kills before)
          (few_kills (Birth i n ∷ before)) (fewer (Birth i n) before may refl) (unreaped_children before) few)
      next (Reaped i n status) before may sound few =
          all_less (few_kills before) (few_kills (Reaped i n status ∷ before))
          (fewer (Reaped i n status) before may refl) (unreaped_children (Reaped i n status ∷ before))
          (all_filtered (few_kills before) (λ child. not (is_child i n child)) (unreaped_children before) few)
      next (Asked i Kill) before may sound few = all_less (λ child. few_kills before child
          && (not (is_child_of i child) || no_kill before child)) (few_kills (Asked i Kill ∷ before)) one
          (unreaped_children before)
          (all_and (few_kills before) (λ child. not (is_child_of i child) || no_kill before child)
          (unreaped_children before) few (kill_first goal i before may sound)) where
            one : (child : Child)
                → (few_kills before child && (not (is_child_of i child) || no_kill before child)) ≡ true
                → few_kills (Asked i Kill ∷ before) child ≡ true
            one child both =
                let parts =
                and_parts (few_kills before child) (not (is_child_of i child) || no_kill before child) both in
                le-leb (kills child (Asked i Kill ∷ before)) 1 (killed_less (same_id child.id i) (in_spell child
                (Asked i Kill) before) (untold_hits child.id before) (undone_of child.id before)
                (spell_hits child before)
                (λ same. hits_told child.id before (free_told child.id before (sound_holds goal before sound).told
                (ap (λ x. open_of x before) (same_id-is child.id i same) ∙ asked_free goal i Kill before may)))
                (leb-true
                (kills child before) 1 parts.0)
                (ap (λ b. not b || no_kill before child) (same_id-sym child.id i) ∙ parts.1))
      next (Asked i Start) before may sound few = all_less (few_kills before) (few_kills (Asked i Start ∷ before))
          (fewer (Asked i Start) before may refl) (unreaped_children before) few
      next (Asked i Look) before may sound few = all_less (few_kills before) (few_kills (Asked i Look ∷ before))
          (fewer (Asked i Look) before may refl) (unreaped_children before) few
      next (Asked i Term) before may sound few = all_less (few_kills before) (few_kills (Asked i Term ∷ before))
          (fewer (Asked i Term) before may refl) (unreaped_children before) few
      next happening before may sound few = all_less (few_kills before) (few_kills (happening ∷ before))
          (fewer happening before may refl) (unreaped_children before) few

pub killed_once : (goal : Goal) (later past : List Event) → is_sound goal (later ++ past) ≡ true
    → at_most_one_kill past ≡ true
killed_once goal later past h = at_moment goal (λ before. at_most_one_kill before ≡ true) refl (λ before sound. all_less
    (few_kills before) (λ child. nat_le (told_kills child before) 1) (λ child few. le-leb (told_kills child before) 1
    (told child before few)) (unreaped_children before) (sound_kills goal before sound)) later past h where
      told : (child : Child) (before : List Event) → few_kills before child ≡ true → told_kills child before ≤ 1
      told child before few = omega (arith, leb-true (kills child before) 1 few)
