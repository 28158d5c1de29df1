-- After a happening, the state agrees with the longer trace.
use Rattle.simulator.proofs.Words.{◌≡◌, refl, sym, ◌∙◌, ap, ℕ, ◌==◌, Bool, true, false, not, ◌&&◌, ◌||◌, cond, List}
use Rattle.simulator.proofs.Words.{◌∷◌, filter, Option, Some, None, find, list_any, option_map, and_parts, Look}
use Rattle.simulator.proofs.Words.{same_id, Asked, Birth, NoBirth, Death, Reaped, Still, NoLook, Hit, Miss, Told, Goal}
use Rattle.simulator.proofs.Words.{Event, Child, has_number, is_child, is_dead, undone_of, unreaped_children}
use Rattle.simulator.proofs.Words.{answered_of, is_order, is_sound, falsely, not_from, filter_within, find_none}
use Rattle.simulator.proofs.Words.{same_id-self, same_find, SystemState, order_in, answer_in, child_in, died}
use Rattle.simulator.proofs.Words.{order_after, answer_after, child_after, Follows, simulated_child_of, child_with}
use Rattle.std.proofs.lemmas.Bool.{eqb-true}
use Rattle.trace_laws.proofs.Births.{sound_step}
use Rattle.simulator.proofs.Numbers.{one_number, lone_gone}

order_step : (happening : Event) (id : List ℕ) (past : List Event)
    → order_after happening id (undone_of id past) ≡ undone_of id (happening ∷ past)
order_step (Asked i ask) id past = refl
order_step (Birth i n) id past = refl
order_step (NoBirth i) id past = refl
order_step (Reaped i n status) id past = refl
order_step (Still i) id past = refl
order_step (NoLook i) id past = refl
order_step (Hit i) id past = refl
order_step (Miss i) id past = refl
order_step (Told i) id past = refl
order_step _ id past = refl

answer_step : (happening : Event) (id : List ℕ) (past : List Event)
    → answer_after happening id (answered_of id past) ≡ answered_of id (happening ∷ past)
answer_step (Birth i n) id past = refl
answer_step (NoBirth i) id past = refl
answer_step (Reaped i n status) id past = refl
answer_step (Still i) id past = refl
answer_step (NoLook i) id past = refl
answer_step (Hit i) id past = refl
answer_step (Miss i) id past = refl
answer_step (Told i) id past = refl
answer_step _ id past = refl

-- a birth adds a living child, and leaves the children with other numbers unchanged
birth_other : (i : List ℕ) (n number : ℕ) (past : List Event) → (number == n) ≡ false → (o : Option Child)
    → option_map (simulated_child_of number past) o ≡ option_map (simulated_child_of number (Birth i n ∷ past)) o
birth_other i n number past differ None = refl
birth_other i n number past differ (Some child) = rw differ (and_no (same_id child.id i)) where
  and_no : (a : Bool) → Some (simulated_child_of number past child)
      ≡ Some (record { id = child.id; is_dead = not (a && false) && is_dead child.id number past })
  and_no true = refl
  and_no false = refl

birth_step : (i : List ℕ) (n number : ℕ) (past : List Event)
    → child_after (Birth i n) number (child_with number past) ≡ child_with number (Birth i n ∷ past)
birth_step i n number past = at_number (number == n) refl where
  at_number : (b : Bool) → (number == n) ≡ b
      → child_after (Birth i n) number (child_with number past) ≡ child_with number (Birth i n ∷ past)
  at_number true same = rw (same, same_id-self i, same) refl
  at_number false differ =
      rw differ (birth_other i n number past differ (find (has_number number) (unreaped_children past)))

-- a death makes the child with its number dead
death_step : (n number : ℕ) (past : List Event)
    → child_after (Death n) number (child_with number past) ≡ child_with number (Death n ∷ past)
death_step n number past = at_number (number == n) (find (has_number number) (unreaped_children past)) where
  at_number : (b : Bool) (o : Option Child) → cond b (option_map died (option_map (simulated_child_of number past) o))
      (option_map (simulated_child_of number past) o)
      ≡ option_map (λ child. record { id = child.id; is_dead = b || is_dead child.id number past }) o
  at_number true None = refl
  at_number true (Some child) = refl
  at_number false None = refl
  at_number false (Some child) = refl

-- a reaping removes the only child with its number, and leaves the others
reaped_other : (i : List ℕ) (n number : ℕ) → (number == n) ≡ false → (child : Child) → has_number number child ≡ true
    → not (is_child i n child) ≡ true
reaped_other i n number differ child its =
    not_from (is_child i n child) (falsely (is_child i n child) (number == n) (λ h. ap (λ m. number == m)
    (eqb-true n child.number (and_parts (same_id i child.id) (n == child.number) h).1) ∙ its) differ)

reap_step : (i : List ℕ) (n number : ℕ) (past : List Event)
    → find (has_number n) (filter (λ child. not (is_child i n child)) (unreaped_children past)) ≡ None
    → cond (number == n) None (child_with number past) ≡ option_map (simulated_child_of number past)
    (find (has_number number) (filter (λ child. not (is_child i n child)) (unreaped_children past)))
reap_step i n number past none = at_number (number == n) refl where
  at_number : (b : Bool) → (number == n) ≡ b → cond b None (child_with number past) ≡ option_map (simulated_child_of
      number past) (find (has_number number) (filter (λ child. not (is_child i n child)) (unreaped_children past)))
  at_number true same = sym (ap (λ m. option_map (simulated_child_of number past)
      (find (has_number m) (filter (λ child. not (is_child i n child)) (unreaped_children past))))
      (eqb-true number n same) ∙ ap (option_map (simulated_child_of number past)) none)
  at_number false differ = ap (option_map (simulated_child_of number past)) (sym (same_find (has_number number) (filter
      (λ child. not (is_child i n child)) (unreaped_children past)) (unreaped_children past) (filter_within (has_number
      number) (λ child. not (is_child i n child)) (reaped_other i n number differ) (unreaped_children past))))

none_left : (goal : Goal) (i : List ℕ) (n : ℕ) (past : List Event) → is_sound goal past ≡ true
    → list_any (is_child i n) (unreaped_children past) ≡ true
    → find (has_number n) (filter (λ child. not (is_child i n child)) (unreaped_children past)) ≡ None
none_left goal i n past sound there = find_none (has_number n) (filter (λ child. not (is_child i n child))
    (unreaped_children past)) (lone_gone (has_number n) (is_child i n) (λ child h. (and_parts (same_id i child.id)
    (n == child.number) h).1) (unreaped_children past) (one_number goal past sound n) there)

child_step : (goal : Goal) (happening : Event) (past : List Event) → is_sound goal (happening ∷ past) ≡ true
    → (number : ℕ) → child_after happening number (child_with number past) ≡ child_with number (happening ∷ past)
child_step goal (Birth i n) past sound number = birth_step i n number past
child_step goal (Death n) past sound number = death_step n number past
child_step goal (Reaped i n status) past sound number =
    let parts = sound_step goal (Reaped i n status) past refl sound in
    let tests = and_parts (is_order Look (undone_of i past) && list_any (is_child i n) (unreaped_children past))
    (is_dead i n past) parts.0 in
    reap_step i n number past (none_left goal i n past parts.1
    (and_parts (is_order Look (undone_of i past)) (list_any (is_child i n) (unreaped_children past)) tests.0).1)
child_step goal _ past sound number = refl

-- a state that follows a trace and is updated for a happening follows the longer trace
pub follows_after : (goal : Goal) (happening : Event) (past : List Event) (old new : SystemState)
    → ((id : List ℕ) → order_in id new ≡ order_after happening id (order_in id old)) → ((id : List ℕ) → answer_in id new
    ≡ answer_after happening id (answer_in id old)) → ((number : ℕ) → child_in number new ≡ child_after happening number
    (child_in number old)) → is_sound goal (happening ∷ past) ≡ true → Follows old past → Follows new (happening ∷ past)
follows_after goal happening past old new orders answers children sound fits = record {
  orders = λ id. orders id ∙ ap (order_after happening id) (fits.orders id) ∙ order_step happening id past;
  answers = λ id. answers id ∙ ap (answer_after happening id) (fits.answers id) ∙ answer_step happening id past;
  children = λ number. children number ∙ ap (child_after happening number) (fits.children number)
      ∙ child_step goal happening past sound number;
}
