-- Before a KILL of a sound trace, a TERM was told to the child during its spell, at least the grace period earlier.
use Rattle.trace_laws.proofs.Words.{◌≡◌, ◌≤◌, ◌+◌, refl, sym, ◌∙◌, ap, subst, ℕ, Bool, true, false, ◌&&◌, ◌||◌, ◌==◌}
use Rattle.trace_laws.proofs.Words.{cond, nat_le, List, [], ◌∷◌, ◌++◌, map, Option, append_assoc, arith, list_any}
use Rattle.trace_laws.proofs.Words.{false≢true, and_parts, and_from, leb-true, list_any-append, OrderKind, Term, Kill}
use Rattle.trace_laws.proofs.Words.{same_id, Asked, Told, Goal, Event, Child, grace_of, time_of, is_child_of, is_child}
use Rattle.trace_laws.proofs.Words.{unreaped_children, is_order, is_excluded, Signal, untold_hits, told_at, tells_hits}
use Rattle.trace_laws.proofs.Words.{in_spell, spell_hits, is_grace_over, is_unreaped, is_sound, same_id-is}
use Rattle.trace_laws.proofs.Words.{same_id-self}
use Rattle.trace_laws.proofs.Words.{Passing, passing, or_either}
use Rattle.trace_laws.specs.Warnings.{stays_excluded, WasTermedBefore}
use Rattle.std.proofs.Common.{eq-eqb}
use Rattle.trace_laws.proofs.Signals.{kill_may}

-- the moment at which a signal of a spell was told
record ToldAt (p : Signal → Bool) (child : Child) (past : List Event) : Type 0 where
  since : List Event
  before : List Event
  told : past ≡ since ++ Told child.id ∷ before
  passes : list_any p (map (told_at (time_of before)) (untold_hits child.id before)) ≡ true
  excluded : stays_excluded child (since ++ Told child.id ∷ []) before ≡ true

told_here : (p : Signal → Bool) (child : Child) (happening : Event) (past : List Event) → in_spell child happening past
    ≡ true → list_any p (tells_hits child happening past) ≡ true → ToldAt p child (happening ∷ past)
told_here p child (Told i) past within h = at_id (same_id child.id i) refl h where
  at_id : (b : Bool) → same_id child.id i ≡ b → list_any p
      (cond b (map (told_at (time_of past)) (untold_hits child.id past)) []) ≡ true → ToldAt p child (Told i ∷ past)
  at_id true same h = record {
    since = [];
    before = past;
    told = ap (λ x. Told x ∷ past) (sym (same_id-is child.id i same));
    passes = h;
    excluded = and_from (in_spell child (Told child.id) past) true within refl;
  }
  at_id false differ h = absurd (false≢true h)
told_here p child _ past within h = absurd (false≢true h)

told_earlier : (p : Signal → Bool) (child : Child) (happening : Event) (past : List Event)
    → in_spell child happening past ≡ true → ToldAt p child past → ToldAt p child (happening ∷ past)
told_earlier p child happening past within position = record {
  since = happening ∷ position.since;
  before = position.before;
  told = ap (λ rest. happening ∷ rest) position.told;
  passes = position.passes;
  excluded = and_from (in_spell child happening ((position.since ++ Told child.id ∷ []) ++ position.before))
      (stays_excluded child (position.since ++ Told child.id ∷ []) position.before) (ap (in_spell child happening)
      (append_assoc position.since (Told child.id ∷ []) position.before ∙ sym position.told)
      ∙ within) position.excluded;
}

told_place : (p : Signal → Bool) (child : Child) (past : List Event) → list_any p (spell_hits child past) ≡ true
    → ToldAt p child past
told_place p child [] h = absurd (false≢true h)
told_place p child (happening ∷ past) h = split (in_spell child happening past) refl h (told_place p child past) where
  split : (b : Bool) → in_spell child happening past ≡ b
      → list_any p (cond b (tells_hits child happening past ++ spell_hits child past) []) ≡ true
      → (list_any p (spell_hits child past) ≡ true → ToldAt p child past) → ToldAt p child (happening ∷ past)
  split true within h rest = or_either (list_any p (tells_hits child happening past)) (list_any p
      (spell_hits child past)) (sym (list_any-append p (tells_hits child happening past) (spell_hits child past)) ∙ h)
      (told_here p child happening past within) (λ more. told_earlier p child happening past within (rest more))
  split false none h rest = absurd (false≢true h)

list_any-map : (p : Signal → Bool) (time : ℕ) (orders : List (Option OrderKind))
    → list_any p (map (told_at time) orders) ≡ list_any (λ order. p (told_at time order)) orders
list_any-map p time [] = refl
list_any-map p time (order ∷ orders) = ap (λ b. p (told_at time order) || b) (list_any-map p time orders)

-- a TERM that was sent and whose grace period is over
ripe_told : (id : List ℕ) (grace now time : ℕ) (orders : List (Option OrderKind)) → list_any (is_grace_over grace now)
    (map (told_at time) orders) ≡ true → (list_any (is_order Term) orders ≡ true) × (time + grace ≤ now)
ripe_told id grace now time orders h = (found.within (is_order Term) parts.0, leb-true (time + grace) now parts.1) where
  found : Passing (λ order. is_grace_over grace now (told_at time order)) orders
  found = passing (λ order. is_grace_over grace now (told_at time order)) orders
      (sym (list_any-map (is_grace_over grace now) time orders) ∙ h)

  parts : (is_order Term found.item ≡ true) × (nat_le (time + grace) now ≡ true)
  parts = and_parts (is_order Term found.item) (nat_le (time + grace) now) found.passes

own_warned : (child : Child) (past : List Event) → is_unreaped child.id child.number past ≡ true
    → ToldAt (is_grace_over (grace_of past) (time_of past)) child past → WasTermedBefore child.id past
own_warned child past there position = grind (arith, ripe_told, same_id-self)

pub kill_warned : (goal : Goal) (later past : List Event) (id : List ℕ)
    → is_sound goal (later ++ Asked id Kill ∷ past) ≡ true → WasTermedBefore id past
kill_warned goal later past id h =
    subst (λ x. WasTermedBefore x past) (sym (same_id-is id found.item.id two.0)) (own_warned found.item past
    (found.within (is_child found.item.id found.item.number) own) (told_place ripe found.item past all.1)) where
      ripe : Signal → Bool
      ripe = is_grace_over (grace_of past) (time_of past)

      stopped : Child → Bool
      stopped child = is_child_of id child && is_excluded past child && list_any ripe (spell_hits child past)

      found : Passing stopped (unreaped_children past)
      found = passing stopped (unreaped_children past) (kill_may goal later id past h)

      all : ((is_child_of id found.item && is_excluded past found.item) ≡ true)
          × (list_any ripe (spell_hits found.item past) ≡ true)
      all = and_parts (is_child_of id found.item && is_excluded past found.item)
          (list_any ripe (spell_hits found.item past)) found.passes

      two : (is_child_of id found.item ≡ true) × (is_excluded past found.item ≡ true)
      two = and_parts (is_child_of id found.item) (is_excluded past found.item) all.0

      own : is_child found.item.id found.item.number found.item ≡ true
      own = and_from (same_id found.item.id found.item.id) (found.item.number == found.item.number)
          (same_id-self found.item.id) (eq-eqb found.item.number found.item.number refl)
