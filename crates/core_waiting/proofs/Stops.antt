-- The children at a rest: no signal and no look is due to any of them.
use Rattle.core_waiting.proofs.Words.{◌≡◌, refl, sym, ◌∙◌, ap, ℕ, Bool, true, false, not, ◌&&◌, ◌||◌, cond, List, []}
use Rattle.core_waiting.proofs.Words.{◌∷◌, ◌++◌, Option, Some, None, is_none, find, list_any, list_all, false≢true}
use Rattle.core_waiting.proofs.Words.{false_from_ne_true, and_parts, and_from, or_left, or_right, or_parts, or_from}
use Rattle.core_waiting.proofs.Words.{not-true, none-some, same_Some, OrderKind, Look, Term, Kill, same_id, same_id-is}
use Rattle.core_waiting.proofs.Words.{same_id-self, both_ways, falsely, not_from, or_either, Passing, passing, Order}
use Rattle.core_waiting.proofs.Words.{Goal, Event, Child, is_child_of, has_child, open_of, is_idle, kept_children}
use Rattle.core_waiting.proofs.Words.{known_children, grace_of, time_of, is_order, is_excluded, Signal, is_grace_over}
use Rattle.core_waiting.proofs.Words.{stop_by, stop_due, is_missed, spell_hits, is_request_pending, step_if, steps_if}
use Rattle.core_waiting.proofs.Words.{record_ids, stop_step, stops_of, stops_among, wants_look, can_look, looks_among}
use Rattle.core_waiting.proofs.Words.{is_sound, idle_none, same_any, at_moment, quiet_known, known_single, hits_are}
use Rattle.core_waiting.proofs.Words.{hits_shape, found_holds, child_in_records, AtRest, are_in_force, is_stopping}
use Rattle.core_waiting.proofs.Words.{is_looked_at}
use Rattle.std.proofs.Common.{is_some}
use Rattle.core_waiting.proofs.Rest.{Rest, at_rest, nil_parts, none_if, none_of, no_wish, idle_quiet, not_first}

-- if no child fails the test, all pass it
pub all_from : (p : Child → Bool) (xs : List Child) → list_any (λ child. not (p child)) xs ≡ false
    → list_all p xs ≡ true
all_from p [] h = refl
all_from p (x ∷ xs) h =
    let parts = or_parts (not (p x)) (list_any (λ child. not (p child)) xs) h in
    and_from (p x) (list_all p xs) (holds (p x) parts.0) (all_from p xs parts.1) where
      holds : (b : Bool) → not b ≡ false → b ≡ true
      holds true h = refl
      holds false h = sym h

-- rank 6

no_stop : (id : List ℕ) (past : List Event) (children : List Child) → stops_of id children past ≡ []
    → list_any (λ child. is_child_of id child && is_some (stop_due child past)) children ≡ false
no_stop id past [] h = refl
no_stop id past (child ∷ children) h =
    let parts =
    nil_parts (steps_if (is_child_of id child) (stop_step id (stop_due child past))) (stops_of id children past) h in
    or_from (is_child_of id child && is_some (stop_due child past))
    (list_any (λ c. is_child_of id c && is_some (stop_due c past))
    children) (one (is_child_of id child) (stop_due child past) parts.0) (no_stop id past children parts.1) where
      one : (b : Bool) (o : Option OrderKind) → steps_if b (stop_step id o) ≡ [] → (b && is_some o) ≡ false
      one false o h = refl
      one true None h = refl
      one true (Some ask) h = cc

no_stops : (ids : List (List ℕ)) (past : List Event) (id : List ℕ) → is_none (open_of id past) ≡ true
    → stops_among ids past ≡ [] → list_any (same_id id) ids ≡ true → stops_of id (known_children past) past ≡ []
no_stops [] past id free h there = absurd (false≢true there)
no_stops (i ∷ ids) past id free h there =
    let parts =
    nil_parts (steps_if (is_none (open_of i past)) (stops_of i (known_children past) past)) (stops_among ids past) h in
    or_either (same_id id i) (list_any (same_id id) ids) there
    (λ same. ap (λ x. stops_of x (known_children past) past) (same_id-is id i same)
    ∙ none_of (is_none (open_of i past)) (stops_of i (known_children past) past) parts.0
    (ap (λ x. is_none (open_of x past)) (sym (same_id-is id i same)) ∙ free))
    (no_stops ids past id free parts.1)

unsignalled : (goal : Goal) (past : List Event) → is_sound goal past ≡ true → AtRest goal past → is_idle past ≡ true
    → list_any (λ child. is_some (stop_due child past)) (known_children past) ≡ false
unsignalled goal past sound h idle =
    false_from_ne_true (list_any (λ child. is_some (stop_due child past)) (known_children past))
    (λ some. wrong (passing (λ child. is_some (stop_due child past)) (known_children past) some)) where
      rest : Rest goal past
      rest = at_rest goal past h

      unwished : is_request_pending past ≡ false
      unwished = no_wish goal past rest (idle_quiet past idle)

      wrong : Passing (λ child. is_some (stop_due child past)) (known_children past) → ⊥
      wrong there =
          let child = there.item in
          let own : is_child_of child.id child ≡ true = same_id-self child.id in
          let none = no_stops (record_ids past) past child.id (ap is_none (idle_none child.id past idle)) (none_of
          (not (is_request_pending past)) (stops_among (record_ids past) past) rest.stops
          (not_from (is_request_pending past) unwished))
          (child_in_records goal past sound child.id (there.within (is_child_of child.id) own)) in
          false≢true (sym (no_stop child.id past (known_children past) none) ∙ there.within (λ x. is_child_of child.id x
          && is_some (stop_due x past))
          (and_from (is_child_of child.id child) (is_some (stop_due child past)) own there.passes))

-- so each excluded child is being stopped
in_force : (grace now : ℕ) (hits : List Signal) → hits_are hits ≡ true → is_some (stop_by grace now hits) ≡ false
    → are_in_force grace now hits ≡ true
in_force grace now [] are h = sym h
in_force grace now (signal ∷ []) are h =
    and_from (is_order Term signal.order) (not (is_grace_over grace now signal)) are
    (ripe (is_grace_over grace now signal) h) where
      ripe : (b : Bool) → is_some (cond b (Some Kill) None) ≡ false → not b ≡ true
      ripe true h = sym h
      ripe false h = refl
in_force grace now (signal ∷ first ∷ []) are h =
    (and_parts (is_order Kill signal.order) (is_order Term first.order) are).0
in_force grace now (signal ∷ first ∷ more ∷ hits) are h = absurd (false≢true are)

under_way : (child : Child) (past : List Event) → hits_are (spell_hits child past) ≡ true
    → is_some (stop_due child past) ≡ false → is_stopping past child ≡ true
under_way child past are h = by (is_excluded past child) (is_missed child past) h where
  force : is_some (stop_by (grace_of past) (time_of past) (spell_hits child past)) ≡ false
      → are_in_force (grace_of past) (time_of past) (spell_hits child past) ≡ true
  force = in_force (grace_of past) (time_of past) (spell_hits child past) are

  by : (excluded missed : Bool)
      → is_some (cond (excluded && not missed) (stop_by (grace_of past) (time_of past) (spell_hits child past)) None)
      ≡ false → (not excluded || missed || are_in_force (grace_of past) (time_of past) (spell_hits child past)) ≡ true
  by false missed h = refl
  by true true h = refl
  by true false h = force h

-- the child that is found for an id
found_some : (p : Child → Bool) (xs : List Child) → list_any p xs ≡ true → (child : Child) × (find p xs ≡ Some child)
found_some p [] h = absurd (false≢true h)
found_some p (x ∷ xs) h = split (p x) h (found_some p xs) where
  split : (b : Bool) → (b || list_any p xs) ≡ true → (list_any p xs ≡ true → (child : Child) × (find p xs ≡ Some child))
      → (child : Child) × (cond b (Some x) (find p xs) ≡ Some child)
  split true h rest = (x, refl)
  split false h rest = rest h

found_any : (p q : Child → Bool) (xs : List Child) (child : Child) → find p xs ≡ Some child → q child ≡ true
    → list_any q xs ≡ true
found_any p q [] child there h = absurd (none-some child there)
found_any p q (x ∷ xs) child there h = split (p x) there (found_any p q xs child) where
  split : (b : Bool) → cond b (Some x) (find p xs) ≡ Some child
      → (find p xs ≡ Some child → q child ≡ true → list_any q xs ≡ true) → (q x || list_any q xs) ≡ true
  split true there rest = or_left (q x) (list_any q xs) (ap q (same_Some x child there) ∙ h)
  split false there rest = or_right (q x) (list_any q xs) (rest there h)

pub stops_at : (goal : Goal) (past : List Event) → is_sound goal past ≡ true → AtRest goal past → is_idle past ≡ true
    → list_all (is_stopping past) (kept_children past) ≡ true
stops_at goal past sound h idle = all_from (is_stopping past) (kept_children past) (false_from_ne_true
    (list_any fails (kept_children past)) (λ some. wrong (passing fails (known_children past) (same_any fails
    (kept_children past) (known_children past) (quiet_known goal past sound (idle_quiet past idle)) some)))) where
      fails : Child → Bool
      fails child = not (is_stopping past child)

      wrong : Passing fails (known_children past) → ⊥
      wrong there =
          let id = there.item.id in
          let own : is_child_of id there.item ≡ true = same_id-self id in
          let found = found_some (is_child_of id) (known_children past) (there.within (is_child_of id) own) in
          let wrongly =
          found_holds (is_child_of id) fails (known_children past) found.0 (known_single goal past sound id) found.1
          (there.within
          (λ x. is_child_of id x && fails x)
          (and_from (is_child_of id there.item) (fails there.item) own there.passes)) in
          let none = falsely (is_some (stop_due found.0 past)) (list_any (λ child. is_some (stop_due child past))
          (known_children past)) (found_any (is_child_of id) (λ child. is_some (stop_due child past))
          (known_children past) found.0 found.1) (unsignalled goal past sound h idle) in
          both_ways (is_stopping past found.0)
          (under_way found.0 past (hits_shape goal past sound id found.0 found.1) none)
          (not-true (is_stopping past found.0) wrongly)

-- rank 10
no_look : (ids : List (List ℕ)) (past : List Event) (id : List ℕ) → looks_among ids past ≡ []
    → list_any (same_id id) ids ≡ true → can_look id past ≡ false
no_look [] past id h there = absurd (false≢true there)
no_look (i ∷ ids) past id h there =
    let parts = nil_parts (step_if (can_look i past) (Order i Look)) (looks_among ids past) h in
    or_either (same_id id i) (list_any (same_id id) ids) there
    (λ same. ap (λ x. can_look x past) (same_id-is id i same) ∙ none_if (can_look i past) (Order i Look) parts.0)
    (no_look ids past id parts.1)

pub looks_at : (goal : Goal) (past : List Event) → is_sound goal past ≡ true → AtRest goal past
    → list_all (is_looked_at past) (known_children past) ≡ true
looks_at goal past sound h = all_from (is_looked_at past) (known_children past)
    (false_from_ne_true (list_any (λ child. not (is_looked_at past child)) (known_children past))
    (λ some. wrong (passing (λ child. not (is_looked_at past child)) (known_children past) some))) where
      wrong : Passing (λ child. not (is_looked_at past child)) (known_children past) → ⊥
      wrong there =
          let child = there.item in
          let known = there.within (is_child_of child.id) (same_id-self child.id) in
          let none = no_look (record_ids past) past child.id (at_rest goal past h).looks
          (child_in_records goal past sound child.id known) in
          false≢true (sym none ∙ fails (has_child child.id (known_children past)) (open_of child.id past)
          (wants_look child.id past) known there.passes) where
            fails : (b : Bool) (o : Option OrderKind) (c : Bool) → b ≡ true → not (is_some o || not c) ≡ true
                → (b && is_none o && c) ≡ true
            fails b None true own h = and_from (b && true) true (and_from b true own refl) refl
            fails b None false own h = absurd (false≢true h)
            fails b (Some ask) c own h = absurd (false≢true h)

pub rest_stopping : (goal : Goal) (later past : List Event) → is_sound goal (later ++ past) ≡ true → AtRest goal past
    → is_idle past ≡ true → list_all (is_stopping past) (kept_children past) ≡ true
rest_stopping goal later past sound = at_moment goal
    (λ before. AtRest goal before → is_idle before ≡ true → list_all (is_stopping before) (kept_children before) ≡ true)
    (λ h. absurd (not_first goal h)) (stops_at goal) later past sound

pub rest_looked : (goal : Goal) (later past : List Event) → is_sound goal (later ++ past) ≡ true → AtRest goal past
    → list_all (is_looked_at past) (known_children past) ≡ true
rest_looked goal later past sound = at_moment goal (λ before. AtRest goal before → list_all (is_looked_at before)
    (known_children before) ≡ true) (λ h. absurd (not_first goal h)) (looks_at goal) later past sound
