-- The law that a happening breaks according to the state is the one that it breaks according to the past.
use Rattle.trace_check.proofs.Words.{arith, ◌≡◌, ◌-◌, refl, sym, ◌∙◌, ap, ℕ, Bool, true, false, not, ◌&&◌, ◌||◌, cond}
use Rattle.trace_check.proofs.Words.{nat_lt, List, [], ◌∷◌, slice_get, take, find, Option, Some, is_none, is_some}
use Rattle.trace_check.proofs.Words.{list_any, list_all, keys_of, option_map, option_map_or, and_from, is_some-lookup}
use Rattle.trace_check.proofs.Words.{HOLD, STARTS, WINDOW, Entry, Level, same_id, entry_of, is_distinct, Event}
use Rattle.trace_check.proofs.Words.{table_of, stage_of, grace_of, time_of, Child, is_child_of, has_child}
use Rattle.trace_check.proofs.Words.{unreaped_children}
use Rattle.trace_check.proofs.Words.{starts_in, is_called, is_wanted, is_owed, is_excluded, may_live, entries_before}
use Rattle.trace_check.proofs.Words.{is_level, is_grace_over, spell_hits, start_times, hold_times, is_held, is_full}
use Rattle.trace_check.proofs.Words.{has_startable_entry, is_in_turn, is_limited_id, is_free, is_due_hold, may_term}
use Rattle.trace_check.proofs.Words.{may_kill}
use Rattle.trace_check.proofs.Words.{broken, same_id-is, same_id-self, same_tests, any_less, any_same, Passing, passing}
use Rattle.trace_check.proofs.Words.{found_any, and_three, is_lone, lone_any, UnreapedChild, JudgeState, at, among}
use Rattle.trace_check.proofs.Words.{is_alive, is_excluded_in, none_excluded_in, is_placed_in, is_wanted_in, is_owed_in}
use Rattle.trace_check.proofs.Words.{is_in_turn_in, is_held_in, is_full_in, is_free_in, is_due_hold_in, is_served_in}
use Rattle.trace_check.proofs.Words.{is_settled_in, is_over_in, may_kill_in, flaw_in, child_of, living_of, newest}
use Rattle.trace_check.proofs.Words.{Reads}
use Rattle.trace_events.specs.Due.{is_served, is_settled}
use Rattle.trace_check.proofs.Lone.{found_test, by_child}
use Rattle.trace_check.proofs.Found.{found_all, found_before, first_before}
use Rattle.trace_check.proofs.Windows.{full_by_last, held_by_last}
use Rattle.trace_check.proofs.Terms.{over_age, ripe_least}

-- a TERM was told in the spell of the child at least the grace period ago
abbrev is_ripe_child : List Event → Child → Bool
is_ripe_child past child = list_any (is_grace_over (grace_of past) (time_of past)) (spell_hits child past)

-- no element is found exactly if none passes
none_first : {X : Type 0} (p : X → Bool) (xs : List X) → is_none (find p xs) ≡ not (list_any p xs)
none_first p [] = refl
none_first p (x ∷ xs) = grind (arith, none_first p xs)

module _ (s : JudgeState) (past : List Event) (r : Reads s past) where
  -- an entry found by its id is called, wanted or owed according to the state exactly if it is according to the past
  called : (e : Entry) → entry_of e.id (table_of past) ≡ Some e → among e.id s.called ≡ is_called e past
  called e found = r.called e.id ∙ ap (λ o. option_map_or (λ x. is_called x past) o false) found

  pub wanted : (e : Entry) → entry_of e.id (table_of past) ≡ Some e → is_wanted_in s e ≡ is_wanted e past
  wanted e found = rw (r.kept e.id, r.orders e.id, r.asked e.id, r.stage, called e found) refl

  pub owed : (e : Entry) → entry_of e.id (table_of past) ≡ Some e → is_owed_in s e ≡ is_owed e past
  owed e found = rw (r.kept e.id, r.orders e.id, r.asked e.id, r.stage, called e found) refl

  pub first_owed_is : (table : List Entry) → table ≡ table_of past → is_distinct table ≡ true → (id : List ℕ)
      → find (is_owed_in s) (entries_before id table) ≡ find (λ e. is_owed e past) (entries_before id (table_of past))
  first_owed_is table is distinct id = ap (λ t. find (is_owed_in s) (entries_before id t)) is
      ∙ first_before (is_owed_in s) (λ e. is_owed e past) id (table_of past) (ap is_distinct (sym is) ∙ distinct) owed

  pub held : (id : List ℕ) → is_held_in s id ≡ is_held id past
  held id = ap (λ o. option_map_or (λ began. nat_lt (s.time - began) HOLD) o false) (r.holds id)
      ∙ ap (λ now. option_map_or (λ began. nat_lt (now - began) HOLD) (newest (hold_times id past)) false) r.time
      ∙ held_by_last id past

  pub full : (id : List ℕ) → is_full_in s id ≡ is_full id past
  full id = ap (λ ts. option_map_or (λ started. nat_lt (s.time - started) WINDOW) (slice_get ts (STARTS - 1)) false)
      (r.starts id) ∙ ap (λ now. option_map_or (λ started. nat_lt (now - started) WINDOW)
      (slice_get (take STARTS (start_times id past)) (STARTS - 1)) false) r.time ∙ full_by_last id past

module _ (s : JudgeState) (past : List Event) (r : Reads s past) (lone : (id : List ℕ)
    → is_lone (is_child_of id) (unreaped_children past) ≡ true) (distinct : is_distinct (table_of past) ≡ true) where
  pub alive : (id : List ℕ) → is_alive s id ≡ has_child id (unreaped_children past)
  alive id = ap is_some (r.children id) ∙ found_any living_of (is_child_of id) (unreaped_children past)

  -- the child of an id is excluded according to the state exactly if it is according to the past
  excluded : (id : List ℕ)
      → is_excluded_in (table_of past) s id ≡ option_map_or (is_excluded past) (child_of id past) false
  excluded id = by_child (λ x o. at x s.children ≡ option_map living_of o
      → is_excluded_in (table_of past) s x ≡ option_map_or (is_excluded past) o false) (λ x is. ap (test x) is)
      (λ c is. ap (test c.id) is ∙ ap (λ now. not (may_live (entry_of c.id (table_of past)) c.act now)) r.stage) id past
      (r.children id)
    where
      test : List ℕ → Option UnreapedChild → Bool
      test x o = option_map_or (λ living. not (may_live (entry_of x (table_of past)) living.act s.stage)) o false

  -- some child is excluded according to the state exactly if one is according to the past
  any_excluded : list_any (is_excluded_in (table_of past) s) (keys_of s.children)
      ≡ list_any (is_excluded past) (unreaped_children past)
  any_excluded = same_tests (list_any (is_excluded_in (table_of past) s) (keys_of s.children))
      (list_any (is_excluded past) (unreaped_children past)) (λ h. there (passing (is_excluded_in (table_of past) s)
      (keys_of s.children) h)) (λ h. back (passing (is_excluded past) (unreaped_children past) h)) where
        there : Passing (is_excluded_in (table_of past) s) (keys_of s.children)
            → list_any (is_excluded past) (unreaped_children past) ≡ true
        there key =
            found_test (is_child_of key.item) (is_excluded past) (unreaped_children past)
            (sym (excluded key.item) ∙ key.passes)

        back : Passing (is_excluded past) (unreaped_children past)
            → list_any (is_excluded_in (table_of past) s) (keys_of s.children) ≡ true
        back child =
            let id : List ℕ = child.item.id in
            let own : is_child_of id child.item ≡ true = same_id-self id in
            let is : is_excluded_in (table_of past) s id ≡ true =
            excluded id ∙ sym (lone_any (is_child_of id) (is_excluded past) (unreaped_children past) (lone id))
            ∙ child.within (λ c. is_child_of id c && is_excluded past c)
            (and_from (is_child_of id child.item) (is_excluded past child.item) own child.passes) in
            let key : list_any (same_id id) (keys_of s.children) ≡ true =
            sym (is_some-lookup (same_id id) s.children) ∙ alive id ∙ child.within (is_child_of id) own in
            any_less (same_id id) (is_excluded_in (table_of past) s)
            (λ k same. ap (is_excluded_in (table_of past) s) (sym (same_id-is id k same)) ∙ is) (keys_of s.children) key

  placed : (id : List ℕ) → is_placed_in (table_of past) s id ≡ has_startable_entry id past
  placed id = ap (λ now. option_map_or (λ e. starts_in e now) (entry_of id (table_of past)) false) r.stage

  in_turn : (id : List ℕ) → is_in_turn_in (table_of past) s id ≡ is_in_turn id past
  in_turn id = none_first (is_owed_in s) (entries_before id (table_of past))
      ∙ ap not (found_before (is_owed_in s) (λ e. is_owed e past) id (table_of past) distinct (owed s past r))

  free : (id : List ℕ) → is_free_in (table_of past) s id ≡ is_free id past
  free id = ap (λ b. not (is_limited_id id past) || not b && not (is_full_in s id)) (held s past r id)
      ∙ ap (λ b. not (is_limited_id id past) || not (is_held id past) && not b) (full s past r id)

  due_hold : (id : List ℕ) → is_due_hold_in (table_of past) s id ≡ is_due_hold id past
  due_hold id = ap (λ b. is_limited_id id past && not b && is_full_in s id) (held s past r id)
      ∙ ap (λ b. is_limited_id id past && not (is_held id past) && b) (full s past r id)

  served : (level : Level) (e : Entry) → entry_of e.id (table_of past) ≡ Some e
      → is_served_in level s e ≡ is_served level (unreaped_children past) past e
  served level e found = grind (arith, owed, alive, held)

  pub settled : (level : Level) → is_settled_in level (table_of past) s ≡ is_settled level (unreaped_children past) past
  settled level =
      ap (λ now. is_level level now && none_excluded_in (table_of past) s
      && list_all (is_served_in level s) (table_of past)) r.stage
      ∙ ap
      (λ b. is_level level (stage_of past) && not b && list_all (is_served_in level s) (table_of past)) any_excluded
      ∙ ap (λ b. is_level level (stage_of past) && not (list_any (is_excluded past) (unreaped_children past)) && b)
      (found_all (is_served_in level s) (is_served level (unreaped_children past) past) (table_of past) distinct
      (served level))

  may_be_termed : (id : List ℕ) → is_excluded_in (table_of past) s id ≡ may_term id past
  may_be_termed id = excluded id ∙ sym (lone_any (is_child_of id) (is_excluded past) (unreaped_children past) (lone id))

  over : (id : List ℕ) → is_over_in s id ≡ option_map_or (is_ripe_child past) (child_of id past) false
  over id = grind (arith, by_child, over_age, ripe_least)

  both_found : (p q : Child → Bool) (o : Option Child)
      → (option_map_or p o false && option_map_or q o false) ≡ option_map_or (λ c. p c && q c) o false
  both_found p q o = grind arith

  may_be_killed : (id : List ℕ) → may_kill_in (table_of past) s id ≡ may_kill id past
  may_be_killed id =
      ap (λ b. b && is_over_in s id) (excluded id)
      ∙ ap (λ b. option_map_or (is_excluded past) (child_of id past) false && b) (over id)
      ∙ both_found (is_excluded past) (is_ripe_child past) (child_of id past)
      ∙ sym
      (lone_any (is_child_of id) (λ c. is_excluded past c && is_ripe_child past c) (unreaped_children past) (lone id))
      ∙ any_same (λ c. is_child_of id c && (is_excluded past c && is_ripe_child past c))
      (λ c. is_child_of id c && is_excluded past c && is_ripe_child past c)
      (λ c. and_three (is_child_of id c) (is_excluded past c) (is_ripe_child past c)) (unreaped_children past)

  not_not : (b : Bool) (x y : Option ℕ) → cond b x y ≡ cond (not (not b)) x y
  not_not true x y = refl
  not_not false x y = refl

  -- the law broken according to the state is the law broken according to the past
  pub flaw_reads : (happening : Event) → flaw_in (table_of past) s happening ≡ broken happening past
  flaw_reads happening =
      grind (
        arith,
        alive,
        placed,
        in_turn,
        any_excluded,
        not_not,
        settled,
        free,
        due_hold,
        may_be_termed,
        may_be_killed,
      )
